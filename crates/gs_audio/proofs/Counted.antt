-- As many places of a block are marked as shards of it are held.
use Rattle.std.proofs.Common.{◌≡◌, ◌≢◌, ◌<◌, ◌≤◌, ◌+◌, ◌-◌, ℕ, zero, suc, Bool, true, false, ◌||◌, cond, List, [], ◌∷◌, length, map, get_or, take, refl, sym}
use Rattle.std.proofs.Common.{ap, ◌∙◌, arith, inl, inr}
use Rattle.std.specs.Prelude.{◌==◌}
use Rattle.std.specs.List.{All, AllPairs, range_with_len}
use Rattle.std.proofs.lemmas.Bool.{cases_eq, eq-eqb, ne_eqb, or_from, or_left, or_parts, both_ways}
use Rattle.std.proofs.lemmas.List.Elements.{All-head, All-tail, All-cons}
use Rattle.std.proofs.lemmas.List.FromFn.{fill_by_all}
use Rattle.gs_rs.specs.Restore.{count_present}
use Rattle.gs_rs.proofs.Flags.{flags_from, count-one, count-none}
use Rattle.gs_rs.specs.Shards.{HeldShard}
use Rattle.gs_audio.specs.Played.{is_audio_held}
use Rattle.gs_audio.specs.Places.{AreAudioShards, HasMarks}

-- a number apart from all of them isn't among them
pub not_among : (x : ℕ) (held : List HeldShard) → All (λ r. x ≢ r.index) held → is_audio_held x held ≡ false
not_among x [] apart = refl
not_among x (r ∷ held) apart =
    or_from (r.index == x) (is_audio_held x held)
    (ne_eqb r.index x (λ e. All-head (λ t. x ≢ t.index) r held apart (sym e)))
    (not_among x held (All-tail (λ t. x ≢ t.index) r held apart))

-- one that isn't among them is apart from all
pub apart-among : (x : ℕ) (held : List HeldShard) → is_audio_held x held ≡ false → All (λ r. x ≢ r.index) held
apart-among x [] none k d h = absurd (omega arith)
apart-among x (r ∷ held) none k d h =
    let parts = or_parts (r.index == x) (is_audio_held x held) none in
    let other : x ≢ r.index = λ e. both_ways (r.index == x) parts.0 (eq-eqb r.index x (sym e)) in
    All-cons (λ t. x ≢ t.index) r held other (apart-among x held parts.1) k d h

-- one that is held is among them
pub among-held : (held : List HeldShard) (k : ℕ) (d : HeldShard) → k < length held → is_audio_held (get_or held k d).index held ≡ true
among-held [] k d h = absurd (omega arith)
among-held (r ∷ held) zero d h = or_left (r.index == r.index) (is_audio_held r.index held) (eq-eqb r.index r.index refl)
among-held (r ∷ held) (suc k) d h = elim (cases_eq r.index (get_or held k d).index) [
  | inl same ↦ or_left (r.index == (get_or held k d).index) (is_audio_held (get_or held k d).index held) (eq-eqb r.index (get_or held k d).index same)
  | inr other ↦
      ap (λ (b : Bool). b || is_audio_held (get_or held k d).index held) (ne_eqb r.index (get_or held k d).index other)
      ∙ among-held held k d (omega arith)
]

-- the first apart from the rest
head_apart : (r : HeldShard) (held : List HeldShard) → AllPairs (λ t u. t.index ≢ u.index) (r ∷ held) → All (λ t. r.index ≢ t.index) held
head_apart r held apart k d h = apart 0 (suc k) d (omega arith) (omega arith)

tail_apart : (r : HeldShard) (held : List HeldShard) → AllPairs (λ t u. t.index ≢ u.index) (r ∷ held) → AllPairs (λ t u. t.index ≢ u.index) held
tail_apart r held apart i j d less h = apart (suc i) (suc j) d (omega arith) (omega arith)

count-among : (n : ℕ) (held : List HeldShard) → All (λ r. r.index < n) held → AllPairs (λ t u. t.index ≢ u.index) held
    → count_present (flags_from (λ i. is_audio_held i held) 0 n) ≡ length held
count-among n [] below apart = count-none 0 n
count-among n (r ∷ held) below apart =
    let first : r.index < n = All-head (λ t. t.index < n) r held below in
    count-one r.index (λ i. is_audio_held i held) 0 n (not_among r.index held (head_apart r held apart)) (omega arith) (omega arith)
    ∙ ap (λ (m : ℕ). suc m) (count-among n held (All-tail (λ t. t.index < n) r held below) (tail_apart r held apart))

-- as many marks are set as shards are held
pub count-marks : (marks : List Bool) (held : List HeldShard) → length marks ≡ 6 → HasMarks marks held → AreAudioShards held
    → count_present marks ≡ length held
count-marks marks held six has are =
    ap count_present (fill_by_all (λ i. is_audio_held i held) marks 6 false six has) ∙ count-among 6 held are.indices are.distinct
