-- As many flags of a block are set as shards of it are held.
use Rattle.std.proofs.Common.{◌≡◌, ◌≢◌, ◌<◌, ◌≤◌, ◌+◌, ◌-◌, ℕ, zero, suc, Bool, true, false, ◌||◌, cond, List, [], ◌∷◌, length, map, get_or, take, drop, refl}
use Rattle.std.proofs.Common.{sym, ap, subst, ◌∙◌, arith, inl, inr}
use Rattle.std.specs.Prelude.{◌==◌}
use Rattle.std.specs.List.{All, AllPairs, range_with_len, list_any}
use Rattle.std.proofs.lemmas.Bool.{cases_eq, cases_lt, eq-eqb, ne_eqb, or_from, or_left, or_parts, both_ways}
use Rattle.std.proofs.lemmas.List.Elements.{All-head, All-tail, All-cons}
use Rattle.std.proofs.lemmas.List.FromFn.{fill_by_all}
use Rattle.gs_rs.specs.Restore.{count_present}
use Rattle.gs_rs.proofs.Flags.{flags_from, count-one, count-none}
use Rattle.gs_frames.specs.Received.{Received}
use Rattle.gs_fecqueue.specs.Places.{shard_total, is_shard_held, AreShards, HasFlagsOf}

-- a number apart from all of them isn't among them
pub not_among : (x : ℕ) (held : List Received) → All (λ r. x ≢ r.head.index) held → is_shard_held held x ≡ false
not_among x [] apart = refl
not_among x (r ∷ held) apart =
    or_from (r.head.index == x) (is_shard_held held x)
    (ne_eqb r.head.index x (λ e. All-head (λ t. x ≢ t.head.index) r held apart (sym e)))
    (not_among x held (All-tail (λ t. x ≢ t.head.index) r held apart))

-- one that isn't among them is apart from all
pub apart-among : (x : ℕ) (held : List Received) → is_shard_held held x ≡ false → All (λ r. x ≢ r.head.index) held
apart-among x [] none k d h = absurd (omega arith)
apart-among x (r ∷ held) none k d h =
    let parts = or_parts (r.head.index == x) (is_shard_held held x) none in
    let other : x ≢ r.head.index = λ e. both_ways (r.head.index == x) parts.0 (eq-eqb r.head.index x (sym e)) in
    All-cons (λ t. x ≢ t.head.index) r held other (apart-among x held parts.1) k d h

-- one that is held is among them
pub among-held : (held : List Received) (k : ℕ) (d : Received) → k < length held → is_shard_held held (get_or held k d).head.index ≡ true
among-held [] k d h = absurd (omega arith)
among-held (r ∷ held) zero d h = or_left (r.head.index == r.head.index) (is_shard_held held r.head.index) (eq-eqb r.head.index r.head.index refl)
among-held (r ∷ held) (suc k) d h = elim (cases_eq r.head.index (get_or held k d).head.index) [
  | inl same ↦
      or_left (r.head.index == (get_or held k d).head.index) (is_shard_held held (get_or held k d).head.index)
      (eq-eqb r.head.index (get_or held k d).head.index same)
  | inr other ↦
      ap (λ (b : Bool). b || is_shard_held held (get_or held k d).head.index) (ne_eqb r.head.index (get_or held k d).head.index other)
      ∙ among-held held k d (omega arith)
]

-- the first apart from the rest
head_apart : (r : Received) (held : List Received) → AllPairs (λ t u. t.head.index ≢ u.head.index) (r ∷ held) → All (λ t. r.head.index ≢ t.head.index) held
head_apart r held apart k d h = apart 0 (suc k) d (omega arith) (omega arith)

tail_apart : (r : Received) (held : List Received) → AllPairs (λ t u. t.head.index ≢ u.head.index) (r ∷ held)
    → AllPairs (λ t u. t.head.index ≢ u.head.index) held
tail_apart r held apart i j d less h = apart (suc i) (suc j) d (omega arith) (omega arith)

count-among : (n : ℕ) (held : List Received) → All (λ r. r.head.index < n) held → AllPairs (λ t u. t.head.index ≢ u.head.index) held
    → count_present (flags_from (is_shard_held held) 0 n) ≡ length held
count-among n [] below apart = count-none 0 n
count-among n (r ∷ held) below apart =
    let first : r.head.index < n = All-head (λ t. t.head.index < n) r held below in
    count-one r.head.index (is_shard_held held) 0 n (not_among r.head.index held (head_apart r held apart)) (omega arith) (omega arith)
    ∙ ap (λ (m : ℕ). suc m) (count-among n held (All-tail (λ t. t.head.index < n) r held below) (tail_apart r held apart))

-- as many flags are set as shards are held
pub count-flags : (flags : List Bool) (held : List Received) (first : Received) → HasFlagsOf flags held first → AreShards held first
    → count_present flags ≡ length held
count-flags flags held first has are =
    ap count_present (fill_by_all (is_shard_held held) flags (shard_total first.head) false has.count has.each)
    ∙ count-among (shard_total first.head) held are.indices are.distinct
