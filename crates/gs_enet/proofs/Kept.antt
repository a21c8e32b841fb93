-- What every event keeps of two sides, seen from the messages that the one gives and the other hears.
use Rattle.std.proofs.Common.{◌≡◌, ◌⊎◌, ◌<◌, ◌≤◌, ◌+◌, ◌%◌, ℕ, Bool, true, false, cond, List, [], ◌∷◌, ◌++◌, length, refl, ap, ◌∙◌}
use Rattle.std.specs.Prelude.{◌==◌, Contains}
use Rattle.std.proofs.lemmas.Bool.{eqb-true, eqb-false}
use Rattle.std.proofs.lemmas.List.{append-nil}
use Rattle.gs_enet.specs.declared.event.PeerEvent.{PeerEvent}
use Rattle.gs_enet.specs.declared.event.PeerEvent.TheVariants as event
use Rattle.gs_enet.specs.declared.state.PeerState.{PeerState}
use Rattle.gs_enet.specs.declared.state.PeerState.TheVariants as state
use Rattle.gs_enet.specs.declared.answer.Answer.{Answer}
use Rattle.gs_enet.specs.Record.{Content, Connect, VerifyConnect, Disconnect, Message, Order, GivenMessage, channels, control, given_on, messages_on, heard}
use Rattle.gs_enet.specs.Write.{Item, Answers, Orders}
use Rattle.gs_enet.specs.World.{Written}
use Rattle.gs_bytes.specs.Prefix.{IsPrefixOf}
use Rattle.gs_enet.proofs.Lists.{Each}

-- ---- lists of messages

abbrev pub count_of : ℕ → List PeerEvent → ℕ
count_of c es = length (messages_on c es)

pub messages_on-append : (c : ℕ) (es fs : List PeerEvent) → messages_on c (es ++ fs) ≡ messages_on c es ++ messages_on c fs
messages_on-append c [] fs = refl
messages_on-append c (event.Message d n bytes ∷ es) fs =
    message_append (d == c) bytes (messages_on c es) (messages_on c fs) (messages_on c (es ++ fs)) (messages_on-append c es fs) where
      message_append : (b : Bool) (x : List ℕ) (xs ys zs : List (List ℕ)) → zs ≡ xs ++ ys → cond b (x ∷ zs) zs ≡ cond b (x ∷ xs) xs ++ ys
      message_append true x xs ys zs e = ap (λ w. x ∷ w) e
      message_append false x xs ys zs e = e
messages_on-append c (event.Connected ∷ es) fs = messages_on-append c es fs
messages_on-append c (event.Closed ∷ es) fs = messages_on-append c es fs
messages_on-append c (event.PeerClosed ∷ es) fs = messages_on-append c es fs
messages_on-append c (event.Lost d n ∷ es) fs = messages_on-append c es fs

-- an event that is no message
abbrev pub IsNoMessage : PeerEvent → Type 0
IsNoMessage (event.Message c n bytes) = ⊥
IsNoMessage _ = Unit {0}

no_message_on : (c : ℕ) (e : PeerEvent) → IsNoMessage e → messages_on c (e ∷ []) ≡ []
no_message_on c (event.Message d n bytes) h = absurd h
no_message_on c event.Connected h = refl
no_message_on c event.Closed h = refl
no_message_on c event.PeerClosed h = refl
no_message_on c (event.Lost d n) h = refl

pub messages_on-other : (c : ℕ) (es : List PeerEvent) (e : PeerEvent) → IsNoMessage e → messages_on c (es ++ e ∷ []) ≡ messages_on c es
messages_on-other c es e h = messages_on-append c es (e ∷ []) ∙ ap (λ w. messages_on c es ++ w) (no_message_on c e h) ∙ append-nil (messages_on c es)

pub messages_on-message : (c n : ℕ) (bytes : List ℕ) (es : List PeerEvent) → messages_on c (es ++ event.Message c n bytes ∷ []) ≡ messages_on c es ++ bytes ∷ []
messages_on-message c n bytes es =
    messages_on-append c es (event.Message c n bytes ∷ []) ∙ ap (λ w. messages_on c es ++ w) (own (c == c) refl) where
      own : (b : Bool) → (c == c) ≡ b → cond b (bytes ∷ []) [] ≡ bytes ∷ []
      own true e = refl
      own false e = absurd (eqb-false c c e refl)

pub messages_on-apart : (c d n : ℕ) (bytes : List ℕ) (es : List PeerEvent) → (d ≡ c → ⊥) → messages_on c (es ++ event.Message d n bytes ∷ []) ≡ messages_on c es
messages_on-apart c d n bytes es apart =
    messages_on-append c es (event.Message d n bytes ∷ []) ∙ ap (λ w. messages_on c es ++ w) (own (d == c) refl) ∙ append-nil (messages_on c es) where
      own : (b : Bool) → (d == c) ≡ b → cond b (bytes ∷ []) [] ≡ []
      own true e = absurd (apart (eqb-true d c e))
      own false e = refl

given_on-append : (c : ℕ) (gs hs : List GivenMessage) → given_on c (gs ++ hs) ≡ given_on c gs ++ given_on c hs
given_on-append c [] hs = refl
given_on-append c (g ∷ gs) hs = more (g.channel == c) g.bytes (given_on c gs) (given_on c hs) (given_on c (gs ++ hs)) (given_on-append c gs hs) where
  more : (b : Bool) (x : List ℕ) (xs ys zs : List (List ℕ)) → zs ≡ xs ++ ys → cond b (x ∷ zs) zs ≡ cond b (x ∷ xs) xs ++ ys
  more true x xs ys zs e = ap (λ w. x ∷ w) e
  more false x xs ys zs e = e

abbrev pub giving : ℕ → List ℕ → List GivenMessage
giving c bytes = (record { channel = c; bytes = bytes }) ∷ []

pub given_on-own : (c : ℕ) (bytes : List ℕ) (gs : List GivenMessage) → given_on c (gs ++ giving c bytes) ≡ given_on c gs ++ bytes ∷ []
given_on-own c bytes gs = given_on-append c gs (giving c bytes) ∙ ap (λ w. given_on c gs ++ w) (own (c == c) refl) where
  own : (b : Bool) → (c == c) ≡ b → cond b (bytes ∷ []) [] ≡ bytes ∷ []
  own true e = refl
  own false e = absurd (eqb-false c c e refl)

pub given_on-apart : (c d : ℕ) (bytes : List ℕ) (gs : List GivenMessage) → (d ≡ c → ⊥) → given_on c (gs ++ giving d bytes) ≡ given_on c gs
given_on-apart c d bytes gs apart =
    given_on-append c gs (giving d bytes) ∙ ap (λ w. given_on c gs ++ w) (own (d == c) refl) ∙ append-nil (given_on c gs) where
      own : (b : Bool) → (d == c) ≡ b → cond b (bytes ∷ []) [] ≡ []
      own true e = absurd (apart (eqb-true d c e))
      own false e = refl

-- ---- what is kept

-- the list has that member in the n-th place, from 1
pub record IsAt (xs : List (List ℕ)) (n : ℕ) (x : List ℕ) : Type 0 where
  pub front : List (List ℕ)
  pub rest : List (List ℕ)
  pub parts : xs ≡ front ++ x ∷ rest
  pub at : n ≡ length front + 1

abbrev pub IsOver : PeerState → Type 0
IsOver state.Closing = Unit {0}
IsOver state.Shut = Unit {0}
IsOver _ = ⊥

abbrev pub IsShut : PeerState → Type 0
IsShut state.Shut = Unit {0}
IsShut _ = ⊥

-- all that was given is heard, and nothing more will be given
pub record IsDone (gv : List GivenMessage) (hr : List PeerEvent) (sg : PeerState) : Type 0 where
  pub all : (c : ℕ) → length (given_on c gv) ≤ count_of c hr
  pub over : IsOver sg

-- what a command that the giver sends tells of it
abbrev pub Says : List GivenMessage → List PeerEvent → PeerState → Content → ℕ → ℕ → Type 0
Says gv hr sg (Message bytes) c n = (c < channels) × IsAt (given_on c gv) n bytes
Says gv hr sg Disconnect c n = (c ≡ control) × IsDone gv hr sg
Says gv hr sg Connect c n = c ≡ control
Says gv hr sg VerifyConnect c n = c ≡ control

abbrev pub SaysOrder : List GivenMessage → List PeerEvent → PeerState → Order → Type 0
SaysOrder gv hr sg o = Says gv hr sg o.content o.channel o.number

-- the command's number is among the last 256 of its channel
abbrev pub IsInWindow : List GivenMessage → Order → Type 0
IsInWindow gv o = o.channel < channels → length (given_on o.channel gv) < o.number + 256

abbrev pub IsHeld : List GivenMessage → List PeerEvent → PeerState → Order → Type 0
IsHeld gv hr sg o = SaysOrder gv hr sg o × IsInWindow gv o

-- a command with that number on that channel is among them
abbrev pub Has : ℕ → ℕ → List Order → Type 0
Has c n [] = ⊥
Has c n (o ∷ os) = ((o.channel ≡ c) × (o.number ≡ n)) ⊎ Has c n os

-- a number of at most that count with these 16 bits
abbrev pub HasAnswered : ℕ → ℕ → Type 0
HasAnswered count number = (n : ℕ) × (n ≤ count) × (n % 65536 ≡ number)

abbrev pub IsTrueAnswer : List PeerEvent → Answer → Type 0
IsTrueAnswer hr a = a.channel < channels → HasAnswered (count_of a.channel hr) a.number

abbrev pub IsTrueOrder : List GivenMessage → List PeerEvent → PeerState → Item → Type 0
IsTrueOrder gv hr sg (Orders o) = SaysOrder gv hr sg o
IsTrueOrder gv hr sg (Answers a) = Unit {0}

abbrev pub AnswersTruly : List PeerEvent → Item → Type 0
AnswersTruly hr (Answers a) = IsTrueAnswer hr a
AnswersTruly hr (Orders o) = Unit {0}

abbrev pub IsFewer : List PeerEvent → List PeerEvent → Type 0
IsFewer es fs = (c : ℕ) → count_of c es ≤ count_of c fs

abbrev pub OrdersOut : List GivenMessage → List PeerEvent → PeerState → Written → Type 0
OrdersOut gv hr sg w = Each (IsTrueOrder gv hr sg) w.items

abbrev pub AnswersOut : List PeerEvent → Written → Type 0
AnswersOut hr w = IsFewer (heard w.by) hr × Each (AnswersTruly (heard w.by)) w.items

-- no message follows the other side's disconnect
abbrev pub NothingAfter : PeerEvent → List PeerEvent → Type 0
NothingAfter event.PeerClosed es = (c : ℕ) → messages_on c es ≡ []
NothingAfter _ es = Unit {0}

abbrev pub IsLast : List PeerEvent → Type 0
IsLast [] = Unit {0}
IsLast (e ∷ es) = NothingAfter e es × IsLast es

-- Of the giver: what it gave, the commands that it holds, its state, what it heard and wrote. Of the reader: what it heard, the
-- answers that it owes, its state and what it wrote.
pub record Kept (gv : List GivenMessage) (os : List Order) (sg : PeerState) (hg : List PeerEvent) (wg : List Written)
    (hr : List PeerEvent) (pr : List Answer) (sr : PeerState) (wr : List Written) : Type 0 where
  pub in_order : (c : ℕ) → IsPrefixOf (messages_on c hr) (given_on c gv)
  pub outside : (c : ℕ) → channels ≤ c → given_on c gv ≡ []
  pub held : Each (IsHeld gv hr sg) os
  pub covered : (c n : ℕ) → 1 ≤ n → n ≤ length (given_on c gv) → (n ≤ count_of c hr) ⊎ Has c n os
  pub owed : Each (IsTrueAnswer hr) pr
  pub orders_out : Each (OrdersOut gv hr sg) wg
  pub answers_out : Each (AnswersOut hr) wr
  pub peer_closed : Contains hr event.PeerClosed → IsDone gv hr sg × IsShut sr
  pub closed : Contains hg event.Closed → IsDone gv hr sg
  pub last : IsLast hr
