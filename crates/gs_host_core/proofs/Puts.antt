-- How what is put on a link grows, datagram by datagram.
use Rattle.std.proofs.Common.{◌≡◌, ◌+◌, ℕ, zero, suc, refl, arith, List, [], ◌∷◌, ◌++◌, map, take, drop, Option, Some, None, Ok, Err, sym, ap, subst, ◌∙◌}
use Rattle.std.specs.List.{slice_get}
use Rattle.std.proofs.lemmas.List.{append-nil, append_assoc, map-append, take-append-drop}
use Rattle.gs_bytes.specs.declared.addr.Addr.{Addr}
use Rattle.gs_bytes.specs.declared.failed.Failed.{Failed}
use Rattle.gs_bytes.specs.declared.link.LinkEntry.{LinkEntry}
use Rattle.gs_bytes.specs.declared.link.LinkEntry.TheVariants.{Put}
use Rattle.gs_bytes.specs.declared.link.Waiting.{Waiting}
use Rattle.gs_bytes.specs.Link.{Puts, KeepsWaiting}
use Rattle.gs_host_core.specs.Puts.{LinkTold, AddsPuts, PutsAll, PutsFront}

abbrev put_to : Addr → List ℕ → LinkEntry
put_to to bytes = Put to bytes

-- ---- what waits

waits-same : (o : Option (List Waiting)) → KeepsWaiting o o
waits-same None = tt
waits-same (Some before) = refl

waits-still : (a b c : Option (List Waiting)) → KeepsWaiting a b → KeepsWaiting b c → KeepsWaiting a c
waits-still None b c p q = tt
waits-still (Some x) None c p q = absurd p
waits-still (Some x) (Some y) None p q = absurd q
waits-still (Some x) (Some y) (Some z) p q = q ∙ p

-- ---- what is put

none-added : (o : Option (List LinkEntry)) (to : Addr) → AddsPuts o o to []
none-added None to = tt
none-added (Some before) to = sym (append-nil before)

more-added : (a b c : Option (List LinkEntry)) (to : Addr) (xs ys : List (List ℕ)) → AddsPuts a b to xs → AddsPuts b c to ys → AddsPuts a c to (xs ++ ys)
more-added None b c to xs ys p q = tt
more-added (Some x) None c to xs ys p q = absurd p
more-added (Some x) (Some y) None to xs ys p q = absurd q
more-added (Some x) (Some y) (Some z) to xs ys p q =
    q ∙ ap (λ (l : List LinkEntry). l ++ map (put_to to) ys) p
    ∙ append_assoc x (map (put_to to) xs) (map (put_to to) ys)
    ∙ ap (λ (l : List LinkEntry). x ++ l) (sym (map-append (put_to to) xs ys))

one-added : (a b : Option (List LinkEntry)) (to : Addr) (bytes : List ℕ) → Puts a b (Ok tt) to bytes → AddsPuts a b to (bytes ∷ [])
one-added None b to bytes p = tt
one-added (Some x) None to bytes p = absurd p
one-added (Some x) (Some y) to bytes p = p

failed-added : (a b : Option (List LinkEntry)) (to : Addr) (e : Failed) (bytes : List ℕ) → Puts a b (Err e) to bytes → AddsPuts a b to []
failed-added None b to e bytes p = tt
failed-added (Some x) None to e bytes p = absurd p
failed-added (Some x) (Some y) to e bytes p = p ∙ sym (append-nil x)

-- nothing was put
pub puts-none : (a : LinkTold) (to : Addr) → PutsAll a a to []
puts-none a to = record { entries = none-added a.entries to; waiting = waits-same a.waiting }

-- some, and then others
pub puts-more : (a b c : LinkTold) (to : Addr) (xs ys : List (List ℕ)) → PutsAll a b to xs → PutsAll b c to ys → PutsAll a c to (xs ++ ys)
puts-more a b c to xs ys p q = record {
  entries = more-added a.entries b.entries c.entries to xs ys p.entries q.entries;
  waiting = waits-still a.waiting b.waiting c.waiting p.waiting q.waiting;
}

-- one
pub puts-one : (a b : LinkTold) (to : Addr) (bytes : List ℕ) → Puts a.entries b.entries (Ok tt) to bytes → KeepsWaiting a.waiting b.waiting
    → PutsAll a b to (bytes ∷ [])
puts-one a b to bytes p w = record { entries = one-added a.entries b.entries to bytes p; waiting = w }

-- none, where a call failed
pub puts-failed : (a b : LinkTold) (to : Addr) (e : Failed) (bytes : List ℕ) → Puts a.entries b.entries (Err e) to bytes
    → KeepsWaiting a.waiting b.waiting → PutsAll a b to []
puts-failed a b to e bytes p w = record { entries = failed-added a.entries b.entries to e bytes p; waiting = w }

-- nothing is a front of all
pub front-none : (a : LinkTold) (to : Addr) (xs : List (List ℕ)) → PutsFront a a to xs
front-none a to xs = record { front = []; is_front = (xs, refl); put = puts-none a to }

-- a front behind others is a front of all
pub front-more : (a b c : LinkTold) (to : Addr) (xs ys : List (List ℕ)) → PutsAll a b to xs → PutsFront b c to ys → PutsFront a c to (xs ++ ys)
front-more a b c to xs ys p q = record {
  front = xs ++ q.front;
  is_front = (q.is_front.0, ap (λ (l : List (List ℕ)). xs ++ l) q.is_front.1 ∙ sym (append_assoc xs q.front q.is_front.0));
  put = puts-more a b c to xs q.front p q.put;
}

-- and stays one where more would follow
pub front-behind : (a b : LinkTold) (to : Addr) (xs ys : List (List ℕ)) → PutsFront a b to xs → PutsFront a b to (xs ++ ys)
front-behind a b to xs ys q = record {
  front = q.front;
  is_front = (q.is_front.0 ++ ys, ap (λ (l : List (List ℕ)). l ++ ys) q.is_front.1 ∙ append_assoc q.front q.is_front.0 ys);
  put = q.put;
}

-- all of some are a front of more
pub front-whole : (a b : LinkTold) (to : Addr) (xs ys : List (List ℕ)) → PutsAll a b to xs → PutsFront a b to (xs ++ ys)
front-whole a b to xs ys p = record { front = xs; is_front = (ys, refl); put = p }

-- ---- datagrams by their numbers

-- the first k of them, and the next
next_one : (xs : List (List ℕ)) (k : ℕ) (bytes : List ℕ) → slice_get xs k ≡ Some bytes → take (suc k) xs ≡ take k xs ++ bytes ∷ []
next_one [] k bytes e = cc
next_one (x ∷ xs) zero bytes e = let same : x ≡ bytes = cc in ap (λ (b : List ℕ). b ∷ []) same
next_one (x ∷ xs) (suc k) bytes e = ap (λ (l : List (List ℕ)). x ∷ l) (next_one xs k bytes e)

pub next-put : (a b c : LinkTold) (to : Addr) (xs : List (List ℕ)) (k : ℕ) (bytes : List ℕ) → slice_get xs k ≡ Some bytes
    → PutsAll a b to (take k xs) → Puts b.entries c.entries (Ok tt) to bytes → KeepsWaiting b.waiting c.waiting → PutsAll a c to (take (k + 1) xs)
next-put a b c to xs k bytes here p q w =
    let next : suc k ≡ k + 1 = omega arith in
    subst (λ (l : List (List ℕ)). PutsAll a c to l) (sym (next_one xs k bytes here) ∙ ap (λ (n : ℕ). take n xs) next)
    (puts-more a b c to (take k xs) (bytes ∷ []) p (puts-one b c to bytes q w))

pub next-failed : (a b c : LinkTold) (to : Addr) (xs : List (List ℕ)) (k : ℕ) (e : Failed) (bytes : List ℕ)
    → PutsAll a b to (take k xs) → Puts b.entries c.entries (Err e) to bytes → KeepsWaiting b.waiting c.waiting → PutsFront a c to xs
next-failed a b c to xs k e bytes p q w = record {
  front = take k xs;
  is_front = (drop k xs, sym (take-append-drop k xs));
  put = subst (λ (l : List (List ℕ)). PutsAll a c to l) (append-nil (take k xs)) (puts-more a b c to (take k xs) [] p (puts-failed b c to e bytes q w));
}
