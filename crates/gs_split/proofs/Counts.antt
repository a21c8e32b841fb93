-- The counts of a plan, as they are computed.
use Rattle.std.proofs.Common.{◌≡◌, ◌<◌, ◌≤◌, ◌+◌, ◌-◌, ◌*◌, ◌/◌, ◌%◌, ℕ, zero, suc, Bool, true, false, ◌&&◌, refl, sym, ap, subst, ◌∙◌, arith}
use Rattle.std.specs.Prelude.{min, nat_lt, nat_le, slice_index}
use Rattle.std.proofs.lemmas.Bool.{cond-true, cond-false, cond_both, and_parts, leb-true, lt-ltb}
use Rattle.std.proofs.lemmas.Nat.{div-add-mod', div-mul-add, div_below, mod_below, le-div, mul-le}
use Rattle.gs_frames.specs.Image.{ceil_div, most_packets}
use Rattle.gs_frames.specs.Plan.{most_shards, most_blocks, most_bare, has_parity, block_count, parts}
use Rattle.gs_frames.proofs.Images.{parted, ceil_div-parted}
use Rattle.gs_frames.proofs.Plans.{few_bare}

-- ---- division that rounds up

div_ceil-parts : (n d q r : ℕ) → q * d + r ≡ n → r < d → q + min 1 r ≡ (n + (d - 1)) / d
div_ceil-parts n d q zero sum below =
    let turned : n + (d - 1) ≡ q * d + (d - 1) = omega (arith, sum) in
    let same : (n + (d - 1)) / d ≡ q = ap (λ (k : ℕ). k / d) turned ∙ div-mul-add q d (d - 1) (omega arith) in
    omega (arith, same)
div_ceil-parts n d q (suc r) sum below =
    let turned : n + (d - 1) ≡ (q + 1) * d + r = omega (arith, sum) in
    let up : (n + (d - 1)) / d ≡ q + 1 = ap (λ (k : ℕ). k / d) turned ∙ div-mul-add (q + 1) d r (omega arith) in
    let one : min 1 (suc r) ≡ 1 = omega arith in
    omega (arith, up, one)

pub div_ceil-is : (n d : ℕ) → 1 ≤ d → n / d + min 1 (n % d) ≡ ceil_div n d
div_ceil-is n d some = div_ceil-parts n d (n / d) (n % d) (div-add-mod' n d) (mod_below n d some)

ceil_bounds : (n m : ℕ) → 1 ≤ n → 1 ≤ m → (1 ≤ ceil_div n m) × (n ≤ ceil_div n m * m)
ceil_bounds n m some part =
    let p = parted n m some part in
    let blocks : ceil_div n m ≡ p.whole + 1 = ceil_div-parted n m p in
    let last : p.last ≤ m = p.last_greatest in
    let within : n ≤ (p.whole + 1) * m = omega (arith, p.sum) in
    let Holds : ℕ → Type 0 = λ b. n ≤ b * m in
    (omega (arith, blocks), subst Holds (sym blocks) within)

-- ---- the number of blocks

pub most_shards-least : (percentage : ℕ) → percentage ≤ 100 → 127 ≤ most_shards percentage
most_shards-least percentage within = le-div 127 25500 (100 + percentage) (omega arith) (omega arith)

most_shards-most : (percentage : ℕ) → most_shards percentage ≤ 1023
most_shards-most percentage =
    let below : most_shards percentage < 256 = div_below 25500 (100 + percentage) 256 (omega arith) (omega arith) in
    omega arith

pub record AreFew (n blocks : ℕ) : Type 0 where
  pub some : 1 ≤ blocks
  pub few : blocks ≤ 4
  pub room : n ≤ blocks * 1023

pub block_count-few : (n percentage : ℕ) → 1 ≤ n → n ≤ most_packets → percentage ≤ 100 → AreFew n (block_count n percentage)
block_count-few n percentage some most within =
    cond_both (has_parity n percentage) (ceil_div n (most_shards percentage)) (ceil_div n most_bare) (AreFew n)
    (λ parity.
    let least : 127 ≤ most_shards percentage = most_shards-least percentage within in
    let bounds = ceil_bounds n (most_shards percentage) some (omega arith) in
    let tests = and_parts (nat_lt 0 percentage) (nat_le (ceil_div n (most_shards percentage)) most_blocks) parity in
    let up : ceil_div n (most_shards percentage) * most_shards percentage ≤ ceil_div n (most_shards percentage) * 1023 =
    mul-le (ceil_div n (most_shards percentage)) (most_shards percentage) (ceil_div n (most_shards percentage)) 1023
    (omega arith) (most_shards-most percentage) in
    record {
      some = bounds.0;
      few = leb-true (ceil_div n (most_shards percentage)) most_blocks tests.1;
      room = omega (arith, bounds.1, up);
    })
    (λ bare.
    let bounds = ceil_bounds n most_bare some (omega arith) in
    record { some = bounds.0; few = few_bare n some (omega arith); room = bounds.1 })

-- ---- the data shards of a block

pub part-before : (n blocks block : ℕ) → block + 1 < blocks → blocks ≤ 4
    → ceil_div n blocks ≡ slice_index (parts n blocks) block
part-before n zero k before few = absurd (omega arith)
part-before n (suc zero) k before few = absurd (omega arith)
part-before n (suc (suc zero)) zero before few = refl
part-before n (suc (suc zero)) (suc k) before few = absurd (omega arith)
part-before n (suc (suc (suc zero))) zero before few = refl
part-before n (suc (suc (suc zero))) (suc zero) before few = refl
part-before n (suc (suc (suc zero))) (suc (suc k)) before few = absurd (omega arith)
part-before n (suc (suc (suc (suc zero)))) zero before few = refl
part-before n (suc (suc (suc (suc zero)))) (suc zero) before few = refl
part-before n (suc (suc (suc (suc zero)))) (suc (suc zero)) before few = refl
part-before n (suc (suc (suc (suc zero)))) (suc (suc (suc k))) before few = absurd (omega arith)
part-before n (suc (suc (suc (suc (suc b))))) k before few = absurd (omega arith)

pub part-last : (n blocks block : ℕ) → block + 1 ≡ blocks → blocks ≤ 4
    → n - block * ceil_div n blocks ≡ slice_index (parts n blocks) block
part-last n zero k last few = absurd (omega (arith, last))
part-last n (suc zero) zero last few = refl
part-last n (suc zero) (suc k) last few = absurd (omega (arith, last))
part-last n (suc (suc zero)) zero last few = absurd (omega (arith, last))
part-last n (suc (suc zero)) (suc zero) last few = refl
part-last n (suc (suc zero)) (suc (suc k)) last few = absurd (omega (arith, last))
part-last n (suc (suc (suc zero))) zero last few = absurd (omega (arith, last))
part-last n (suc (suc (suc zero))) (suc zero) last few = absurd (omega (arith, last))
part-last n (suc (suc (suc zero))) (suc (suc zero)) last few = refl
part-last n (suc (suc (suc zero))) (suc (suc (suc k))) last few = absurd (omega (arith, last))
part-last n (suc (suc (suc (suc zero)))) zero last few = absurd (omega (arith, last))
part-last n (suc (suc (suc (suc zero)))) (suc zero) last few = absurd (omega (arith, last))
part-last n (suc (suc (suc (suc zero)))) (suc (suc zero)) last few = absurd (omega (arith, last))
part-last n (suc (suc (suc (suc zero)))) (suc (suc (suc zero))) last few = refl
part-last n (suc (suc (suc (suc zero)))) (suc (suc (suc (suc k)))) last few = absurd (omega (arith, last))
part-last n (suc (suc (suc (suc (suc b))))) k last few = absurd (omega arith)

pub part-behind : (n blocks block : ℕ) → blocks ≤ block → 1 ≤ blocks → block < 4
    → 0 ≡ slice_index (parts n blocks) block
part-behind n zero k behind some few = absurd (omega arith)
part-behind n (suc zero) zero behind some few = absurd (omega arith)
part-behind n (suc zero) (suc zero) behind some few = refl
part-behind n (suc zero) (suc (suc zero)) behind some few = refl
part-behind n (suc zero) (suc (suc (suc zero))) behind some few = refl
part-behind n (suc zero) (suc (suc (suc (suc k)))) behind some few = absurd (omega arith)
part-behind n (suc (suc zero)) zero behind some few = absurd (omega arith)
part-behind n (suc (suc zero)) (suc zero) behind some few = absurd (omega arith)
part-behind n (suc (suc zero)) (suc (suc zero)) behind some few = refl
part-behind n (suc (suc zero)) (suc (suc (suc zero))) behind some few = refl
part-behind n (suc (suc zero)) (suc (suc (suc (suc k)))) behind some few = absurd (omega arith)
part-behind n (suc (suc (suc zero))) zero behind some few = absurd (omega arith)
part-behind n (suc (suc (suc zero))) (suc zero) behind some few = absurd (omega arith)
part-behind n (suc (suc (suc zero))) (suc (suc zero)) behind some few = absurd (omega arith)
part-behind n (suc (suc (suc zero))) (suc (suc (suc zero))) behind some few = refl
part-behind n (suc (suc (suc zero))) (suc (suc (suc (suc k)))) behind some few = absurd (omega arith)
part-behind n (suc (suc (suc (suc b)))) k behind some few = absurd (omega arith)

-- each has as many as fit
pub part-each : (n blocks : ℕ) → 1 ≤ blocks → n ≤ blocks * 1023 → ceil_div n blocks ≤ 1023
part-each n blocks some room =
    let below : ceil_div n blocks < 1024 = div_below (n + (blocks - 1)) blocks 1024 some (omega arith) in
    omega arith

-- what is left for the last block
pub part-rest : (n blocks block each : ℕ) → block + 1 ≡ blocks → n ≤ blocks * 1023 → each ≡ n / blocks + min 1 (n % blocks)
    → n - block * each ≤ 1023
part-rest zero blocks block each last room is = omega arith
part-rest (suc n) blocks block each last room is =
    let some : 1 ≤ blocks = omega (arith, last) in
    let same : each ≡ ceil_div (suc n) blocks = is ∙ div_ceil-is (suc n) blocks some in
    let bounds = ceil_bounds (suc n) blocks (omega arith) some in
    let few : ceil_div (suc n) blocks ≤ 1023 = part-each (suc n) blocks some room in
    let Holds : ℕ → Type 0 = λ e. suc n ≤ e * blocks in
    let within : suc n ≤ each * blocks = subst Holds (sym same) bounds.1 in
    let turned : each * (block + 1) ≡ block * each + each = omega arith in
    let whole : each * blocks ≡ block * each + each = ap (λ (b : ℕ). each * b) (sym last) ∙ turned in
    omega (arith, within, whole, few, same)

-- ---- the tests

count-is : (n percentage most count : ℕ) → percentage ≤ 100 → most ≡ most_shards percentage
    → count ≡ n / most + min 1 (n % most) → count ≡ ceil_div n (most_shards percentage)
count-is n percentage most count within is counted =
    let least : 127 ≤ most_shards percentage = most_shards-least percentage within in
    counted ∙ ap (λ (m : ℕ). n / m + min 1 (n % m)) is ∙ div_ceil-is n (most_shards percentage) (omega arith)

pub has_parity-is : (n percentage most count : ℕ) → 0 < percentage → percentage ≤ 100 → most ≡ most_shards percentage
    → count ≡ n / most + min 1 (n % most) → nat_le count most_blocks ≡ has_parity n percentage
has_parity-is n percentage most count least within is counted =
    ap (λ (c : ℕ). nat_le c most_blocks) (count-is n percentage most count within is counted)
    ∙ ap (λ (b : Bool). b && nat_le (ceil_div n (most_shards percentage)) most_blocks) (sym (lt-ltb 0 percentage least))

pub block_count-with : (n percentage most count : ℕ) → percentage ≤ 100 → has_parity n percentage ≡ true
    → most ≡ most_shards percentage → count ≡ n / most + min 1 (n % most) → count ≡ block_count n percentage
block_count-with n percentage most count within parity is counted =
    count-is n percentage most count within is counted
    ∙ sym (cond-true (has_parity n percentage) (ceil_div n (most_shards percentage)) (ceil_div n most_bare) parity)

pub block_count-without : (n percentage count : ℕ) → has_parity n percentage ≡ false
    → count ≡ n / 1023 + min 1 (n % 1023) → count ≡ block_count n percentage
block_count-without n percentage count bare counted =
    counted ∙ div_ceil-is n most_bare (omega arith)
    ∙ sym (cond-false (has_parity n percentage) (ceil_div n (most_shards percentage)) (ceil_div n most_bare) bare)
