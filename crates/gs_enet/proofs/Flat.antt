-- The messages of all channels, one channel after the other.
use Rattle.std.proofs.Common.{◌≡◌, ◌≢◌, ◌⊎◌, ◌<◌, ◌≤◌, ◌+◌, ◌-◌, ◌%◌, ℕ, zero, suc, Bool, true, false, not, cond, List, [], ◌∷◌, ◌++◌, length, map, take, drop}
use Rattle.std.proofs.Common.{get_or, set, Option, Some, None, refl, sym, ap, subst, ◌∙◌, arith, inl, inr}
use Rattle.std.specs.Prelude.{◌==◌, ◌&&◌, ◌||◌, nat_lt, is_some}
use Rattle.std.specs.List.{All, AllZip, filter, find, list_any}
use Rattle.std.specs.Option.{option_map, option_or}
use Rattle.std.proofs.lemmas.Bool.{cond-true, cond-false, false≢true, eq-eqb, ne_eqb, cases_eq, or_from, and_left, le-ltb, lt-ltb, or_left}
use Rattle.std.proofs.lemmas.List.{append_assoc, append-nil, length-append, set_split, take-append-drop, drop_more, length-take-le, length-drop, length_push}
use Rattle.std.proofs.lemmas.List.{take_more, take_all, map-append}
use Rattle.std.proofs.lemmas.List.Elements.{All-head, All-tail, All-push, All-nil, All-cons, AllZip-get_or, length_all_zip, filter-append}
use Rattle.std.proofs.lemmas.List.Folds.{find-append}
use Rattle.gs_enet.specs.declared.held.Held.{Held}
use Rattle.gs_enet.specs.declared.channel.Channel.{Channel}
use Rattle.gs_enet.specs.Record.{Unacknowledged, Content, Connect, VerifyConnect, Disconnect, Message, Order}
use Rattle.gs_enet.specs.Steps.{placed, comes_before, rank, name_of, had_last_wait, due_again}
use Rattle.gs_enet.specs.Window.{unacknowledged, in_window}
use Rattle.gs_enet.specs.Channels.{next_of, channel_held, all_held, AreNew, IsNewChannel, LostIs, MarksDue, SameCounts}
use Rattle.gs_enet.proofs.Windows.{none_is_lost, find_none_in}
use Rattle.gs_enet.proofs.Lists.{Each, each_weaker, each_append, each_both, each_find}

-- ---- what is known of each of them

abbrev pub IsMessage : Content → Type 0
IsMessage (Message bytes) = Unit {0}
IsMessage _ = ⊥

-- a message of that channel whose number is below that one
abbrev pub IsOn : ℕ → ℕ → Unacknowledged → Type 0
IsOn c next u = (u.order.channel ≡ c) × (u.order.number < next) × IsMessage u.order.content

in_window-on : (c n next : ℕ) (xs : List (Option Held)) → n + length xs ≡ next → Each (IsOn c next) (in_window c n xs)
in_window-on c n next [] e = tt
in_window-on c n next (None ∷ xs) e = in_window-on c (n + 1) next xs (omega (arith, e))
in_window-on c n next (Some h ∷ xs) e = ((refl, omega (arith, e), tt), in_window-on c (n + 1) next xs (omega (arith, e)))

pub channel_held-on : (c : ℕ) (ch : Channel) → Each (IsOn c (next_of ch)) (channel_held c ch)
channel_held-on c ch = in_window-on c ch.first (next_of ch) ch.window.items refl

-- a message of a channel from there on, and below there
abbrev pub IsFrom : ℕ → Unacknowledged → Type 0
IsFrom c u = (c ≤ u.order.channel) × IsMessage u.order.content

abbrev pub IsBelow : ℕ → Unacknowledged → Type 0
IsBelow c u = (u.order.channel < c) × IsMessage u.order.content

pub all_held-from : (c : ℕ) (chs : List Channel) → Each (IsFrom c) (all_held c chs)
all_held-from c [] = tt
all_held-from c (ch ∷ chs) =
    each_append (IsFrom c) (channel_held c ch) (all_held (suc c) chs)
    (each_weaker (IsOn c (next_of ch)) (IsFrom c) (λ u h. (omega (arith, h.0), h.2)) (channel_held c ch) (channel_held-on c ch))
    (each_weaker (IsFrom (suc c)) (IsFrom c) (λ u h. (omega (arith, h.0), h.1)) (all_held (suc c) chs) (all_held-from (suc c) chs))

pub all_held-below : (c top : ℕ) (chs : List Channel) → c + length chs ≤ top → Each (IsBelow top) (all_held c chs)
all_held-below c top [] most = tt
all_held-below c top (ch ∷ chs) most =
    each_append (IsBelow top) (channel_held c ch) (all_held (suc c) chs)
    (each_weaker (IsOn c (next_of ch)) (IsBelow top) (λ u h. (omega (arith, h.0, most), h.2)) (channel_held c ch) (channel_held-on c ch))
    (all_held-below (suc c) top chs (omega (arith, most)))

pub all_held-append : (c : ℕ) (xs ys : List Channel) → all_held c (xs ++ ys) ≡ all_held c xs ++ all_held (c + length xs) ys
all_held-append c [] ys = ap (λ (k : ℕ). all_held k ys) (omega arith)
all_held-append c (x ∷ xs) ys =
    ap (λ (us : List Unacknowledged). channel_held c x ++ us) (all_held-append (suc c) xs ys
    ∙ ap (λ (k : ℕ). all_held (suc c) xs ++ all_held k ys) (omega arith))
    ∙ sym (append_assoc (channel_held c x) (all_held (suc c) xs) (all_held (c + suc (length xs)) ys))

-- before a channel, and behind it
abbrev pub before : ℕ → List Channel → List Unacknowledged
before c chs = all_held 0 (take c chs)

abbrev pub behind : ℕ → List Channel → List Unacknowledged
behind c chs = all_held (suc c) (drop (c + 1) chs)

at_length : (c : ℕ) (chs : List Channel) → c < length chs → 0 + length (take c chs) ≡ c
at_length c chs lt = omega (arith, length-take-le c chs (omega arith))

pub split_at : (c : ℕ) (chs : List Channel) (d : Channel) → c < length chs → all_held 0 chs ≡ before c chs ++ (channel_held c (get_or chs c d) ++ behind c chs)
split_at c chs d lt =
    ap (all_held 0) (sym (take-append-drop c chs)) ∙ all_held-append 0 (take c chs) (drop c chs)
    ∙ ap (λ (us : List Unacknowledged). before c chs ++ us)
    (ap (λ (k : ℕ). all_held k (drop c chs)) (at_length c chs lt) ∙ ap (all_held c) (drop_more chs c d lt))

pub split_set : (c : ℕ) (chs : List Channel) (ch : Channel) → c < length chs → all_held 0 (set chs c ch) ≡ before c chs ++ (channel_held c ch ++ behind c chs)
split_set c chs ch lt =
    ap (all_held 0) (set_split chs c ch lt) ∙ all_held-append 0 (take c chs) (ch ∷ drop (suc c) chs)
    ∙ ap (λ (us : List Unacknowledged). before c chs ++ us)
    (ap (λ (k : ℕ). all_held k (ch ∷ drop (suc c) chs)) (at_length c chs lt) ∙ ap (λ (k : ℕ). channel_held c ch ++ all_held (suc c) (drop k chs)) (next c))
  where
    next : (k : ℕ) → suc k ≡ k + 1
    next k = omega arith

pub before-below : (c : ℕ) (chs : List Channel) → c < length chs → Each (IsBelow c) (before c chs)
before-below c chs lt = all_held-below 0 c (take c chs) (omega (arith, length-take-le c chs (omega arith)))

pub behind-from : (c : ℕ) (chs : List Channel) → Each (IsFrom (suc c)) (behind c chs)
behind-from c chs = all_held-from (suc c) (drop (c + 1) chs)

new_from : (c : ℕ) (chs : List Channel) → All IsNewChannel chs → all_held c chs ≡ []
new_from c [] h = refl
new_from c (ch ∷ chs) h =
    let first = All-head IsNewChannel ch chs h in
    ap (λ (us : List Unacknowledged). us ++ all_held (suc c) chs) (ap (in_window c ch.first) first.1) ∙ new_from (suc c) chs (All-tail IsNewChannel ch chs h)

pub all_held-new : (chs : List Channel) (n : ℕ) → AreNew chs n → all_held 0 chs ≡ []
all_held-new chs n h = new_from 0 chs h.1

-- ---- a message at its place

placed_past : (u : Unacknowledged) (xs ys : List Unacknowledged) → Each (λ v. comes_before u.order v.order ≡ false) xs → placed u (xs ++ ys) ≡ xs ++ placed u ys
placed_past u [] ys h = refl
placed_past u (x ∷ xs) ys h = cond-false (comes_before u.order x.order) _ _ h.0 ∙ ap (λ (us : List Unacknowledged). x ∷ us) (placed_past u xs ys h.1)

placed_here : (u : Unacknowledged) (ys : List Unacknowledged) → Each (λ v. comes_before u.order v.order ≡ true) ys → placed u ys ≡ u ∷ ys
placed_here u [] h = refl
placed_here u (y ∷ ys) h = cond-true (comes_before u.order y.order) _ _ h.0

before_false : (a b : Order) → rank b.channel ≤ rank a.channel → (a.channel ≡ b.channel → b.number ≤ a.number) → comes_before a b ≡ false
before_false a b low same =
    or_from (nat_lt (rank a.channel) (rank b.channel)) ((a.channel == b.channel) && nat_lt a.number b.number) (le-ltb (rank a.channel) (rank b.channel) low)
    (elim (cases_eq a.channel b.channel) [
      | inl e ↦ (ap (λ (t : Bool). t && nat_lt a.number b.number) (eq-eqb a.channel b.channel e) ∙ le-ltb a.number b.number (same e))
      | inr apart ↦ and_left (a.channel == b.channel) (nat_lt a.number b.number) (ne_eqb a.channel b.channel apart)
    ])

before_true : (a b : Order) → rank a.channel < rank b.channel → comes_before a b ≡ true
before_true a b low = or_left (nat_lt (rank a.channel) (rank b.channel)) _ (lt-ltb (rank a.channel) (rank b.channel) low)

pub placed_last : (c : ℕ) (u : Unacknowledged) (front : List Unacknowledged) (chs : List Channel) (d ch : Channel) → c < length chs → length chs ≤ 48
    → Each (λ v. v.order.channel ≡ 255) front → u.order.channel ≡ c → u.order.number ≡ next_of (get_or chs c d)
    → channel_held c ch ≡ channel_held c (get_or chs c d) ++ u ∷ []
    → placed u (front ++ all_held 0 chs) ≡ front ++ all_held 0 (set chs c ch)
placed_last c u front chs d ch lt most control on next held =
    let old = channel_held c (get_or chs c d) in
    ap (λ (us : List Unacknowledged). placed u (front ++ us)) (split_at c chs d lt)
    ∙ placed_past u front (before c chs ++ (old ++ behind c chs))
    (each_weaker (λ v. v.order.channel ≡ 255) (λ v. comes_before u.order v.order ≡ false)
    (λ v at. before_false u.order v.order (omega (arith, ap rank at, on)) (λ e. absurd (omega (arith, e, at, on, lt, most)))) front control)
    ∙ ap (λ (us : List Unacknowledged). front ++ us)
    (placed_past u (before c chs) (old ++ behind c chs)
    (each_weaker (IsBelow c) (λ v. comes_before u.order v.order ≡ false)
    (λ v h. before_false u.order v.order (omega (arith, h.0, on, lt, most)) (λ e. absurd (omega (arith, h.0, on, e)))) (before c chs) (before-below c chs lt))
    ∙ ap (λ (us : List Unacknowledged). before c chs ++ us)
    (placed_past u old (behind c chs)
    (each_weaker (IsOn c (next_of (get_or chs c d))) (λ v. comes_before u.order v.order ≡ false)
    (λ v h. before_false u.order v.order (omega (arith, h.0, on)) (λ e. omega (arith, h.1, next))) old (channel_held-on c (get_or chs c d)))
    ∙ ap (λ (us : List Unacknowledged). old ++ us)
    (placed_here u (behind c chs)
    (each_weaker (λ v. IsFrom (suc c) v × IsBelow 48 v) (λ v. comes_before u.order v.order ≡ true)
    (λ v h. before_true u.order v.order (omega (arith, h.0.0, h.1.0, on, lt, most))) (behind c chs)
    (each_both (IsFrom (suc c)) (IsBelow 48) (behind c chs) (behind-from c chs)
    (all_held-below (suc c) 48 (drop (c + 1) chs) (omega (arith, lt, most, length-drop (c + 1) chs))))))
    ∙ sym (append_assoc old (u ∷ []) (behind c chs)) ∙ ap (λ (us : List Unacknowledged). us ++ behind c chs) (sym held)))
    ∙ ap (λ (us : List Unacknowledged). front ++ us) (sym (split_set c chs ch lt))

-- ---- new channels

pub are_new_push : (xs ys : List Channel) (x : Channel) (n : ℕ) → ys ≡ xs ++ x ∷ [] → AreNew xs n → IsNewChannel x → AreNew ys (n + 1)
are_new_push xs ys x n e h new =
    (ap length e ∙ length_push xs x ∙ ap (λ (k : ℕ). k + 1) h.0, subst (All IsNewChannel) (sym e) (All-push IsNewChannel xs x h.1 new))

pub new_counts : (chs : List Channel) (n : ℕ) → AreNew chs n → (c : ℕ) (d : Channel) → c < length chs
    → (next_of (get_or chs c d) ≡ 1) × ((get_or chs c d).heard ≡ 0)
new_counts chs n h c d lt =
    let new = h.1 c d lt in
    (omega (arith, new.0, ap length new.1), new.2)

-- ---- the first message that is lost

map_is_none : {X Y : Type 0} (f : X → Y) (o : Option X) → option_map f o ≡ None → o ≡ None
map_is_none f None e = refl
map_is_none f (Some x) e = absurd cc

named_by : (i number : ℕ) (o : Option Unacknowledged) (P : Unacknowledged → Type 0) → ((u : Unacknowledged) → o ≡ Some u → u.order.channel ≡ i)
    → option_map (λ (u : Unacknowledged). u.order.number) o ≡ Some number → option_map name_of o ≡ Some (i, number)
named_by i number None P on e = absurd cc
named_by i number (Some u) P on e =
    let channel : u.order.channel ≡ i = on u refl in
    let same : u.order.number ≡ number = cc in
    ap (λ (x : ℕ). Some (x, u.order.number)) channel ∙ ap (λ (x : ℕ). Some (i, x)) same

pub find_past : (test : Unacknowledged → Bool) (xs ys : List Unacknowledged) → find test xs ≡ None → find test (xs ++ ys) ≡ find test ys
find_past test xs ys none = find-append test xs ys ∙ ap (λ (o : Option Unacknowledged). option_or o (find test ys)) none

find_there : (test : Unacknowledged → Bool) (xs ys : List Unacknowledged) (o : Option Unacknowledged) → find test xs ≡ o → is_some o ≡ true
    → find test (xs ++ ys) ≡ o
find_there test xs ys None e some = absurd (false≢true some)
find_there test xs ys (Some u) e some = find-append test xs ys ∙ ap (λ (o : Option Unacknowledged). option_or o (find test ys)) e

mapped_some : {X Y : Type 0} (f : X → Y) (o : Option X) (y : Y) → option_map f o ≡ Some y → is_some o ≡ true
mapped_some f None y e = absurd cc
mapped_some f (Some x) y e = refl

pub lost_here : (now i number : ℕ) (chs : List Channel) (ch : Channel) → i < length chs → find (had_last_wait now) (before i chs) ≡ None → ch ≡ get_or chs i ch
    → LostIs now ch (Some number)
    → option_map name_of (find (had_last_wait now) (all_held 0 chs)) ≡ Some (i, number)
lost_here now i number chs ch lt none read lost =
    let test : Unacknowledged → Bool = had_last_wait now in
    let own : List Unacknowledged = channel_held i ch in
    let there : find test (own ++ behind i chs) ≡ find test own = find_there test own (behind i chs) (find test own) refl
    (mapped_some (λ (u : Unacknowledged). u.order.number) (find test own) number (lost i)) in
    ap (option_map name_of)
    (ap (find test) (split_at i chs ch lt ∙ ap (λ (x : Channel). before i chs ++ (channel_held i x ++ behind i chs)) (sym read))
    ∙ find_past test (before i chs) (own ++ behind i chs) none ∙ there)
    ∙ named_by i number (find test own) (IsOn i (next_of ch))
    (λ u found. (each_find (IsOn i (next_of ch)) test own u (channel_held-on i ch) found).0.0) (lost i)

pub none_more : (now i : ℕ) (chs : List Channel) (ch : Channel) → i < length chs → find (had_last_wait now) (before i chs) ≡ None → ch ≡ get_or chs i ch
    → LostIs now ch None
    → find (had_last_wait now) (before (i + 1) chs) ≡ None
none_more now i chs ch lt none read lost =
    ap (find (had_last_wait now))
    (ap (all_held 0) (take_more chs i ch lt ∙ ap (λ (x : Channel). take i chs ++ x ∷ []) (sym read)) ∙ all_held-append 0 (take i chs) (ch ∷ [])
    ∙ ap (λ (k : ℕ). before i chs ++ all_held k (ch ∷ [])) (at_length i chs lt)
    ∙ ap (λ (us : List Unacknowledged). before i chs ++ us) (append-nil (channel_held i ch)))
    ∙ find_past (had_last_wait now) (before i chs) (channel_held i ch) none ∙ map_is_none (λ (u : Unacknowledged). u.order.number)
    (find (had_last_wait now) (channel_held i ch)) (lost i)

pub none_at_all : (now : ℕ) (chs : List Channel) → find (had_last_wait now) (before (length chs) chs) ≡ None
    → option_map name_of (find (had_last_wait now) (all_held 0 chs)) ≡ None
none_at_all now chs none =
    ap (λ (xs : List Channel). option_map name_of (find (had_last_wait now) (all_held 0 xs))) (sym (take_all (length chs) chs (omega arith)))
    ∙ ap (option_map name_of) none

-- where no message is lost, none of any channel is
left_none : (o p : Option Unacknowledged) → option_or o p ≡ None → (o ≡ None) × (p ≡ None)
left_none None p e = (refl, e)
left_none (Some u) p e = absurd cc

pub find_none_parts : (test : Unacknowledged → Bool) (xs ys : List Unacknowledged) → find test (xs ++ ys) ≡ None → (find test xs ≡ None) × (find test ys ≡ None)
find_none_parts test xs ys e = left_none (find test xs) (find test ys) (sym (find-append test xs ys) ∙ e)

any_channel : (now c : ℕ) (ch : Channel) → find (had_last_wait now) (channel_held c ch) ≡ None → LostIs now ch None
any_channel now c ch e k =
    ap (option_map (λ (u : Unacknowledged). u.order.number)) (find_none_in now k ch.first ch.window.items
    (none_is_lost now c ch.first ch.window.items (ap (option_map (λ (u : Unacknowledged). u.order.number)) e)))

none_lost_from : (now c : ℕ) (chs : List Channel) → find (had_last_wait now) (all_held c chs) ≡ None → All (λ (ch : Channel). LostIs now ch None) chs
none_lost_from now c [] e = All-nil (λ (ch : Channel). LostIs now ch None)
none_lost_from now c (ch ∷ chs) e =
    let parts = find_none_parts (had_last_wait now) (channel_held c ch) (all_held (suc c) chs) e in
    All-cons (λ (x : Channel). LostIs now x None) ch chs (any_channel now c ch parts.0) (none_lost_from now (suc c) chs parts.1)

pub none_lost : (now : ℕ) (chs : List Channel) → find (had_last_wait now) (all_held 0 chs) ≡ None → All (λ (ch : Channel). LostIs now ch None) chs
none_lost now chs e = none_lost_from now 0 chs e

pub named_none : (o : Option Unacknowledged) → option_map name_of o ≡ None → o ≡ None
named_none o e = map_is_none name_of o e

marked_from : (now c : ℕ) (xs ys : List Channel) → AllZip (MarksDue now) xs ys → all_held c ys ≡ map (due_again now) (all_held c xs)
marked_from now c [] [] h = refl
marked_from now c (x ∷ xs) [] h = absurd h
marked_from now c [] (y ∷ ys) h = absurd h
marked_from now c (x ∷ xs) (y ∷ ys) h =
    ap (λ (us : List Unacknowledged). us ++ all_held (suc c) ys) (h.0.held c)
    ∙ ap (λ (us : List Unacknowledged). map (due_again now) (channel_held c x) ++ us) (marked_from now (suc c) xs ys h.1)
    ∙ sym (map-append (due_again now) (channel_held c x) (all_held (suc c) xs))

pub marked : (now : ℕ) (xs ys : List Channel) → AllZip (MarksDue now) xs ys → all_held 0 ys ≡ map (due_again now) (all_held 0 xs)
marked now xs ys h = marked_from now 0 xs ys h

pub same_counts : (now : ℕ) (xs ys : List Channel) (i : ℕ) (d : Channel) → AllZip (MarksDue now) xs ys → i < length ys
    → SameCounts (get_or xs i d) (get_or ys i d)
same_counts now xs ys i d h lt = (AllZip-get_or (MarksDue now) xs ys i d d h (omega (arith, lt, length_all_zip (MarksDue now) xs ys h))).same
