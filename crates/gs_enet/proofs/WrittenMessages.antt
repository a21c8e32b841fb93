-- What a side writes of one channel: its messages with their numbers, and how many answers.
use Rattle.std.proofs.Common.{◌≡◌, ◌≤◌, ◌+◌, ◌-◌, ℕ, zero, suc, Bool, true, false, cond, List, [], ◌∷◌, ◌++◌, length, map, take, drop, refl, sym, ap, subst}
use Rattle.std.proofs.Common.{◌∙◌, arith}
use Rattle.std.specs.Prelude.{◌==◌, nat_le}
use Rattle.std.specs.List.{filter}
use Rattle.std.proofs.lemmas.List.{append_assoc, append-nil, length-append}
use Rattle.gs_enet_wire.specs.Grammar.{command_spelling}
use Rattle.gs_enet.specs.declared.answer.Answer.{Answer}
use Rattle.gs_enet.specs.Record.{PeerRecord, Unacknowledged, datagram_room, is_shut}
use Rattle.gs_enet.specs.Write.{Item, Answers, Orders, item_command, due_if, is_due, going_out, fitting, next_items, header_room, written_once}
use Rattle.gs_enet.specs.Write.{first_written}
use Rattle.gs_enet.specs.World.{Written, one_written}
use Rattle.gs_enet.proofs.Lists.{Each, each_map, each_append, each_filter}
use Rattle.gs_enet.proofs.Rising.{Numbered}
use Rattle.gs_enet.proofs.HeldMessages.{message_of, held_on, due_on, gather}
use Rattle.gs_enet.proofs.Windows.{first_written-none}

abbrev pub item_message : ℕ → Item → List Numbered
item_message c (Orders o) = message_of c o.content o.channel o.number
item_message c (Answers a) = []

abbrev pub item_messages : ℕ → List Item → List Numbered
item_messages c [] = []
item_messages c (x ∷ xs) = item_message c x ++ item_messages c xs

abbrev pub put_messages : ℕ → List Written → List Numbered
put_messages c [] = []
put_messages c (w ∷ ws) = item_messages c w.items ++ put_messages c ws

abbrev pub one_if : Bool → ℕ
one_if b = cond b 1 0

abbrev pub item_answer : ℕ → Item → ℕ
item_answer c (Answers a) = one_if (a.channel == c)
item_answer c (Orders o) = 0

abbrev pub item_answers : ℕ → List Item → ℕ
item_answers c [] = 0
item_answers c (x ∷ xs) = item_answer c x + item_answers c xs

abbrev pub put_answers : ℕ → List Written → ℕ
put_answers c [] = 0
put_answers c (w ∷ ws) = item_answers c w.items + put_answers c ws

-- ---- one datagram more

pub put_messages-append : (c : ℕ) (vs ws : List Written) → put_messages c (vs ++ ws) ≡ put_messages c vs ++ put_messages c ws
put_messages-append c [] ws = refl
put_messages-append c (v ∷ vs) ws =
    ap (λ (x : List Numbered). item_messages c v.items ++ x) (put_messages-append c vs ws)
    ∙ sym (append_assoc (item_messages c v.items) (put_messages c vs) (put_messages c ws))

pub put_messages-push : (c : ℕ) (by : PeerRecord) (xs : List Item) (ws : List Written) → put_messages c (ws ++ one_written by xs) ≡ put_messages c ws
    ++ item_messages c xs
put_messages-push c by [] ws = put_messages-append c ws []
put_messages-push c by (x ∷ xs) ws =
    put_messages-append c ws (one_written by (x ∷ xs)) ∙ ap (λ (y : List Numbered). put_messages c ws ++ y) (append-nil (item_messages c (x ∷ xs)))

pub put_answers-append : (c : ℕ) (vs ws : List Written) → put_answers c (vs ++ ws) ≡ put_answers c vs + put_answers c ws
put_answers-append c [] ws = omega arith
put_answers-append c (v ∷ vs) ws = omega (arith, put_answers-append c vs ws)

pub put_answers-push : (c : ℕ) (by : PeerRecord) (xs : List Item) (ws : List Written) → put_answers c (ws ++ one_written by xs) ≡ put_answers c ws
    + item_answers c xs
put_answers-push c by [] ws = omega (arith, put_answers-append c ws [])
put_answers-push c by (x ∷ xs) ws = omega (arith, put_answers-append c ws (one_written by (x ∷ xs)))

-- ---- the next datagram is a front of what is to be written

fitting_front : (r : PeerRecord) (room : ℕ) (xs : List Item) → fitting r room xs ≡ take (length (fitting r room xs)) xs
fitting_front r room [] = refl
fitting_front r room (x ∷ xs) =
    here (length (command_spelling (item_command r x))) (fitting_front r (room - length (command_spelling (item_command r x))) xs) where
      here : (n : ℕ) → fitting r (room - n) xs ≡ take (length (fitting r (room - n) xs)) xs
          → cond (nat_le n room) (x ∷ fitting r (room - n) xs) [] ≡ take (length (cond (nat_le n room) (x ∷ fitting r (room - n) xs) [])) (x ∷ xs)
      here n later = fits (nat_le n room) where
        fits : (b : Bool) → cond b (x ∷ fitting r (room - n) xs) [] ≡ take (length (cond b (x ∷ fitting r (room - n) xs) [])) (x ∷ xs)
        fits true = ap (λ (y : List Item). x ∷ y) later
        fits false = refl

pub next_front : (r : PeerRecord) → next_items r ≡ take (length (next_items r)) (going_out r)
unfolding next_items
next_front r = fitting_front r (datagram_room - header_room) (going_out r)

each_take : (P : Item → Type 0) (n : ℕ) (xs : List Item) → Each P xs → Each P (take n xs)
each_take P zero xs h = tt
each_take P (suc n) [] h = tt
each_take P (suc n) (x ∷ xs) h = (h.0, each_take P n xs h.1)

abbrev pub writing : Unacknowledged → Item
writing u = Orders u.order

pub each_due : (P : Unacknowledged → Type 0) (over : Bool) (us : List Unacknowledged) → Each P us → Each P (due_if over us)
each_due P true us h = tt
each_due P false us h = each_filter P is_due us h

-- what holds of each answer that is owed and of each command that is held
pub each_next : (P : Item → Type 0) (r : PeerRecord) → Each (λ a. P (Answers a)) r.pending → Each (λ (u : Unacknowledged). P (Orders u.order)) r.unacknowledged
    → Each P (next_items r)
each_next P r answers held =
    subst (Each P) (sym (next_front r))
    (each_take P (length (next_items r)) (going_out r)
    (each_append P (map Answers r.pending) (map writing (due_if (is_shut r.state) r.unacknowledged))
    (each_map P Answers r.pending answers)
    (each_map P writing (due_if (is_shut r.state) r.unacknowledged)
    (each_due (λ (u : Unacknowledged). P (Orders u.order)) (is_shut r.state) r.unacknowledged held))))

-- ---- messages

less_none : (n : ℕ) → n ≡ n - 0
less_none n = omega arith

none_less : (n : ℕ) → 0 ≡ 0 - suc n
none_less n = omega arith

both_less : (n m : ℕ) → n - m ≡ suc n - suc m
both_less n m = omega arith

behind_answers : (c n : ℕ) (as' : List Answer) (us : List Unacknowledged)
    → item_messages c (take n (map Answers as' ++ map writing us)) ≡ item_messages c (take (n - length as') (map writing us))
behind_answers c n [] us = ap (λ (k : ℕ). item_messages c (take k (map writing us))) (less_none n)
behind_answers c zero (a ∷ as') us = ap (λ (k : ℕ). item_messages c (take k (map writing us))) (none_less (length as'))
behind_answers c (suc n) (a ∷ as') us = behind_answers c n as' us ∙ ap (λ (k : ℕ). item_messages c (take k (map writing us))) (both_less n (length as'))

no_messages : (c n : ℕ) → item_messages c (take n []) ≡ []
no_messages c zero = refl
no_messages c (suc n) = refl

-- of the messages that are due those that are written come first
written_due : (c now n : ℕ) (us : List Unacknowledged)
    → item_messages c (take n (map writing (filter is_due us))) ++ gather (due_on c) (first_written now n us) ≡ gather (due_on c) us
written_due c now n [] = ap (λ (x : List Numbered). x ++ []) (no_messages c n)
written_due c now zero (u ∷ us) = refl
written_due c now (suc n) (u ∷ us) = here u.due refl (written_due c now n us) (written_due c now (suc n) us) where
  here : (b : Bool) → u.due ≡ b
      → item_messages c (take n (map writing (filter is_due us))) ++ gather (due_on c) (first_written now n us) ≡ gather (due_on c) us
      → item_messages c (take (suc n) (map writing (filter is_due us))) ++ gather (due_on c) (first_written now (suc n) us) ≡ gather (due_on c) us
      → item_messages c (take (suc n) (map writing (cond b (u ∷ filter is_due us) (filter is_due us))))
      ++ gather (due_on c) (cond b (written_once now u ∷ first_written now n us) (u ∷ first_written now (suc n) us))
      ≡ cond b (held_on c u) [] ++ gather (due_on c) us
  here true e one other =
      append_assoc (held_on c u) (item_messages c (take n (map writing (filter is_due us)))) (gather (due_on c) (first_written now n us))
      ∙ ap (λ (x : List Numbered). held_on c u ++ x) one
  here false e one other =
      ap (λ (x : List Numbered). item_messages c (take (suc n) (map writing (filter is_due us))) ++ (x ++ gather (due_on c) (first_written now (suc n) us)))
      (ap (λ (b : Bool). cond b (held_on c u) []) e)
      ∙ other

due_written : (c now : ℕ) (over : Bool) (as' : List Answer) (us : List Unacknowledged) (n : ℕ) → n ≤ length (map Answers as' ++ map writing (due_if over us))
    → item_messages c (take (n - length as') (map writing (due_if over us))) ++ gather (due_on c) (first_written now (n - length as') us) ≡ gather (due_on c) us
due_written c now false as' us n most = written_due c now (n - length as') us
due_written c now true as' us n most =
    let nothing : 0 ≡ n - length as' = omega (arith, most, length-append (map Answers as') [], length_map as') in
    subst (λ (k : ℕ). item_messages c (take k []) ++ gather (due_on c) (first_written now k us) ≡ gather (due_on c) us) nothing
    (ap (gather (due_on c)) (first_written-none now us)) where
      length_map : (bs : List Answer) → length (map Answers bs) ≡ length bs
      length_map [] = refl
      length_map (b ∷ bs) = omega (arith, length_map bs)

length_front : (n : ℕ) (xs ys : List Item) → ys ≡ take n xs → length ys ≤ length xs
length_front n xs ys e = omega (arith, ap length e, short n xs) where
  short : (n : ℕ) (xs : List Item) → length (take n xs) ≤ length xs
  short zero xs = omega arith
  short (suc n) [] = omega arith
  short (suc n) (x ∷ xs) = omega (arith, short n xs)

pub next_messages : (c : ℕ) (r : PeerRecord)
    → item_messages c (next_items r) ++ gather (due_on c) (first_written r.now (length (next_items r) - length r.pending) r.unacknowledged)
    ≡ gather (due_on c) r.unacknowledged
next_messages c r =
    let n : ℕ = length (next_items r) in
    ap (λ (x : List Numbered). x ++ gather (due_on c) (first_written r.now (n - length r.pending) r.unacknowledged))
    (ap (item_messages c) (next_front r) ∙ behind_answers c n r.pending (due_if (is_shut r.state) r.unacknowledged))
    ∙ due_written c r.now (is_shut r.state) r.pending r.unacknowledged n (length_front n (going_out r) (next_items r) (next_front r))

-- ---- answers

no_answers : (c n : ℕ) (us : List Unacknowledged) → item_answers c (take n (map writing us)) ≡ 0
no_answers c zero us = refl
no_answers c (suc n) [] = refl
no_answers c (suc n) (u ∷ us) = omega (arith, no_answers c n us)

answers_written : (c n : ℕ) (as' : List Answer) (us : List Unacknowledged)
    → item_answers c (take n (map Answers as' ++ map writing us)) + item_answers c (map Answers (drop n as')) ≡ item_answers c (map Answers as')
answers_written c zero as' us = omega arith
answers_written c (suc n) [] us = omega (arith, no_answers c (suc n) us)
answers_written c (suc n) (a ∷ as') us = omega (arith, answers_written c n as' us)

pub next_answers : (c : ℕ) (r : PeerRecord)
    → item_answers c (next_items r) + item_answers c (map Answers (drop (length (next_items r)) r.pending)) ≡ item_answers c (map Answers r.pending)
next_answers c r =
    let n : ℕ = length (next_items r) in
    omega (arith, ap (item_answers c) (next_front r), answers_written c n r.pending (due_if (is_shut r.state) r.unacknowledged))
