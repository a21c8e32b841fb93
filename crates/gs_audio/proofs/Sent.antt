-- The datagrams of units, and what a sender keeps for them.
use Rattle.std.proofs.Common.{◌≡◌, ◌≢◌, ◌<◌, ◌≤◌, ◌+◌, ◌-◌, ◌*◌, ◌/◌, ◌%◌, ℕ, zero, suc, cond, List, [], ◌∷◌, ◌++◌, length, get_or, take, drop}
use Rattle.std.proofs.Common.{refl, sym, ap, subst, ◌∙◌, arith, inl, inr}
use Rattle.std.specs.Prelude.{◌==◌}
use Rattle.std.specs.List.{All, concat, flat_map, range_with_len}
use Rattle.std.proofs.lemmas.Bool.{cases_eq, cond-true, cond-false, eq-eqb, ne_eqb}
use Rattle.std.proofs.lemmas.List.{length-append, length-drop, append-nil, append_assoc, take_all, drop-append-le}
use Rattle.std.proofs.lemmas.List.Elements.{All-take, All-drop, All-append, All-cons, All-nil}
use Rattle.std.proofs.lemmas.List.Folds.{concat-append}
use Rattle.std.proofs.Math.Seq.{take-append_seam, drop-append-add}
use Rattle.std.proofs.lemmas.List.{nil_from_length}
use Rattle.gs_gf256.specs.Field.{IsByte}
use Rattle.gs_rs.specs.declared.shape.CodeShape.{CodeShape}
use Rattle.gs_rs.specs.Shape.{audio_code}
use Rattle.gs_rs.specs.Codeword.{IsBlock}
use Rattle.gs_rs.proofs.Rows.{IsCode-audio}
use Rattle.gs_rtp.specs.Stream.{StreamSettings}
use Rattle.gs_rtp.specs.AudioDatagrams.{numbered, units_of_block, unit_datagram, parity_datagram, unit_datagrams, audio_datagrams}
use Rattle.gs_rtp.proofs.AudioUnits.{unit_datagrams-front}
use Rattle.gs_audio.specs.Sending.{Sending, HasParityShards, HasPushed, last_datagrams, last_block, next_units, ready_behind, AudioDatagramsGrow}
use Rattle.gs_rs.proofs.LaidShards.{HaveSize, block-is}
use Rattle.gs_bytes.proofs.Lists.{flat_map-range}

-- ---- units by their numbers

pub numbered-is : (units : List (List ℕ)) (n : ℕ) → numbered units n ≡ get_or units n []
numbered-is [] n = refl
numbered-is (unit ∷ units) zero = refl
numbered-is (unit ∷ units) (suc n) = numbered-is units n

-- ---- the datagrams of one unit more

range-more : (f : ℕ → List (List ℕ)) (a n : ℕ) → flat_map f (range_with_len a (suc n)) ≡ flat_map f (range_with_len a n) ++ f (a + n)
range-more f a zero = append-nil (f a) ∙ ap f (omega arith)
range-more f a (suc n) =
    ap (λ (l : List (List ℕ)). f a ++ l) (range-more f (a + 1) n)
    ∙ sym (append_assoc (f a) (flat_map f (range_with_len (a + 1) n)) (f (a + 1 + n)))
    ∙ ap (λ (m : ℕ). (f a ++ flat_map f (range_with_len (a + 1) n)) ++ f m) (omega arith)

pub one_more : (units : List (List ℕ)) (u : List ℕ) → length (units ++ u ∷ []) ≡ suc (length units)
one_more units u = omega (arith, length-append units (u ∷ []))

before_last : (units : List (List ℕ)) (u : List ℕ) → length (units ++ u ∷ []) - 1 ≡ length units
before_last units u = omega (arith, one_more units u)

pub datagrams-grow : AudioDatagramsGrow
datagrams-grow s units u =
    let all = units ++ u ∷ [] in
    let n = length units in
    ap (λ (m : ℕ). flat_map (unit_datagrams s all) (range_with_len 0 m)) (one_more units u)
    ∙ range-more (unit_datagrams s all) 0 n
    ∙ ap (λ (l : List (List ℕ)). l ++ unit_datagrams s all (0 + n))
    (flat_map-range (unit_datagrams s all) (unit_datagrams s units) 0 n (λ i h. unit_datagrams-front s units (u ∷ []) i (omega arith)))
    ∙ ap (λ (m : ℕ). audio_datagrams s units ++ unit_datagrams s all m) (omega (arith, before_last units u))

-- how many the last unit has
pub last-count : (s : StreamSettings) (units : List (List ℕ)) (u : List ℕ)
    → length (last_datagrams s (units ++ u ∷ [])) ≡ cond (length units % 4 == 3) 3 1
last-count s units u =
    let all = units ++ u ∷ [] in
    let n = length units in
    let both = parity_datagram s all (n / 4) 0 ∷ parity_datagram s all (n / 4) 1 ∷ [] in
    let own = unit_datagram s all n in
    ap (λ (m : ℕ). length (unit_datagrams s all m)) (before_last units u) ∙ elim (cases_eq (n % 4) 3) [
      | inl last ↦
          ap (λ (l : List (List ℕ)). length (own ∷ l)) (cond-true (n % 4 == 3) both [] (eq-eqb (n % 4) 3 last))
          ∙ sym (cond-true (n % 4 == 3) 3 1 (eq-eqb (n % 4) 3 last))
      | inr other ↦
          ap (λ (l : List (List ℕ)). length (own ∷ l)) (cond-false (n % 4 == 3) both [] (ne_eqb (n % 4) 3 other))
          ∙ sym (cond-false (n % 4 == 3) 3 1 (ne_eqb (n % 4) 3 other))
    ]

ready-more : (s : StreamSettings) (units : List (List ℕ)) (u : List ℕ)
    → ready_behind s (units ++ u ∷ []) ≡ length (last_datagrams s (units ++ u ∷ []))
ready-more s [] u = refl
ready-more s (v ∷ units) u = refl

-- ---- the units of a block so far

next-is : (units : List (List ℕ)) → next_units units ≡ drop (length units / 4 * 4) units
next-is units =
    let n = length units in
    take_all 4 (drop (n / 4 * 4) units) (omega (arith, length-drop (n / 4 * 4) units))

length-next : (units : List (List ℕ)) → length (next_units units) ≡ length units % 4
length-next units =
    let n = length units in
    ap length (next-is units) ∙ omega (arith, length-drop (n / 4 * 4) units)

last-more : (units : List (List ℕ)) (u : List ℕ) → last_block (units ++ u ∷ []) ≡ next_units units ++ u ∷ []
last-more units u =
    let n = length units in
    let m = n / 4 * 4 in
    let xs = drop m units in
    let few : length (xs ++ u ∷ []) ≤ 4 = omega (arith, length-append xs (u ∷ []), length-drop m units) in
    ap (λ (k : ℕ). units_of_block (units ++ u ∷ []) (k / 4)) (before_last units u)
    ∙ ap (take 4) (drop-append-le m units (u ∷ []) (omega arith))
    ∙ take_all 4 (xs ++ u ∷ []) few
    ∙ ap (λ (l : List (List ℕ)). l ++ u ∷ []) (sym (next-is units))

length-last : (units : List (List ℕ)) (u : List ℕ) → length (last_block (units ++ u ∷ [])) ≡ length units % 4 + 1
length-last units u =
    ap length (last-more units u) ∙ omega (arith, length-append (next_units units) (u ∷ []), length-next units)

-- ---- what is kept

next-kept : (s : Sending) (units : List (List ℕ)) → HasPushed s units
    → take (length units % 4 * s.settings.audio) s.shards ≡ concat (next_units units)
next-kept s units has =
    let n = length units in
    let size = s.settings.audio in
    elim (cases_eq (n % 4) 0) [
      | inl first ↦
          let none = nil_from_length (next_units units) (length-next units ∙ first) in
          let empty : n % 4 * size ≡ 0 = ap (λ (m : ℕ). m * size) first ∙ omega arith in
          ap (λ (m : ℕ). take m s.shards) empty ∙ sym (ap concat none)
      | inr more ↦
          let same : (n - 1) / 4 ≡ n / 4 = omega arith in
          let blocks : last_block units ≡ next_units units = ap (units_of_block units) same in
          let count : length (last_block units) ≡ n % 4 = ap length blocks ∙ length-next units in
          ap (λ (m : ℕ). take (m * size) s.shards) (sym count) ∙ has.kept ∙ ap concat blocks
    ]

-- one more unit behind them
kept-more : (s : Sending) (units : List (List ℕ)) (u shards : List ℕ) → HasPushed s units → length u ≡ s.settings.audio
    → take (s.pushed % 4 * length u + length u) shards ≡ take (s.pushed % 4 * length u) s.shards ++ u
    → take (length (last_block (units ++ u ∷ [])) * s.settings.audio) shards ≡ concat (last_block (units ++ u ∷ []))
kept-more s units u shards has size written =
    let n = length units in
    let place : s.pushed % 4 ≡ n % 4 = ap (λ (m : ℕ). m % 4) has.count in
    let front : s.pushed % 4 * length u ≡ n % 4 * s.settings.audio = ap (λ (m : ℕ). m * length u) place ∙ ap (λ (m : ℕ). n % 4 * m) size in
    let turned : (n % 4 + 1) * s.settings.audio ≡ n % 4 * s.settings.audio + s.settings.audio = omega arith in
    let far : length (last_block (units ++ u ∷ [])) * s.settings.audio ≡ s.pushed % 4 * length u + length u =
    ap (λ (m : ℕ). m * s.settings.audio) (length-last units u) ∙ omega (arith, turned, front) in
    ap (λ (m : ℕ). take m shards) far
    ∙ written
    ∙ ap (λ (m : ℕ). take m s.shards ++ u) front
    ∙ ap (λ (l : List ℕ). l ++ u) (next-kept s units has)
    ∙ ap (λ (l : List ℕ). concat (next_units units) ++ l) (sym (append-nil u))
    ∙ sym (concat-append (next_units units) (u ∷ []))
    ∙ ap concat (sym (last-more units u))

sizes-more : (size : ℕ) (units : List (List ℕ)) (u : List ℕ) → HaveSize size units → length u ≡ size → HaveSize size (units ++ u ∷ [])
sizes-more size units u sizes same =
    All-append (λ unit. length unit ≡ size) units (u ∷ []) sizes (All-cons (λ unit. length unit ≡ size) u [] same (All-nil (λ unit. length unit ≡ size)))

-- a unit that isn't its block's last was pushed
pub pushed-part : (s t : Sending) (units : List (List ℕ)) (u : List ℕ) → HasPushed s units → length u ≡ s.settings.audio
    → t.settings ≡ s.settings → t.pushed ≡ s.pushed + 1 → t.ready ≡ 1 → s.pushed % 4 + 1 ≢ 4
    → take (s.pushed % 4 * length u + length u) t.shards ≡ take (s.pushed % 4 * length u) s.shards ++ u
    → HasPushed t (units ++ u ∷ [])
pushed-part s t units u has size settings count ready part written =
    let n = length units in
    let other : n % 4 ≢ 3 = λ e. part (omega (arith, has.count)) in
    let audio : t.settings.audio ≡ s.settings.audio = ap (λ (x : StreamSettings). x.audio) settings in
    let Sizes : ℕ → Type 0 = λ m. HaveSize m (units ++ u ∷ []) in
    record {
      count = omega (arith, count, has.count, one_more units u);
      sizes = subst Sizes (sym audio) (sizes-more s.settings.audio units u has.sizes size);
      ready = ready ∙ sym (cond-false (n % 4 == 3) 3 1 (ne_eqb (n % 4) 3 other)) ∙ sym (last-count t.settings units u) ∙ sym (ready-more t.settings units u);
      kept = ap (λ (m : ℕ). take (length (last_block (units ++ u ∷ [])) * m) t.shards) audio ∙ kept-more s units u t.shards has size written;
      whole = λ four. absurd (other (omega (arith, length-last units u)));
    }

-- and one that is
pub pushed-whole : (s t : Sending) (units : List (List ℕ)) (u mid : List ℕ) → HasPushed s units → length u ≡ s.settings.audio
    → t.settings ≡ s.settings → t.pushed ≡ s.pushed + 1 → t.ready ≡ 3 → s.pushed % 4 + 1 ≡ 4
    → take (s.pushed % 4 * length u + length u) mid ≡ take (s.pushed % 4 * length u) s.shards ++ u
    → take (4 * length u) t.shards ≡ take (4 * length u) mid
    → ((us : List (List ℕ)) → length us ≡ 4 → HaveSize (length u) us → take (4 * length u) mid ≡ concat us → HasParityShards (length u) us t.shards)
    → HasPushed t (units ++ u ∷ [])
pushed-whole s t units u mid has size settings count ready last written front parity =
    let n = length units in
    let is_last : n % 4 ≡ 3 = omega (arith, has.count) in
    let all = units ++ u ∷ [] in
    let block = last_block all in
    let audio : t.settings.audio ≡ s.settings.audio = ap (λ (x : StreamSettings). x.audio) settings in
    let to_unit : length u ≡ t.settings.audio = size ∙ sym audio in
    let four : length block ≡ 4 = length-last units u ∙ omega arith in
    let sizes = sizes-more s.settings.audio units u has.sizes size in
    let Sizes : ℕ → Type 0 = λ m. HaveSize m all in
    let in_block : HaveSize (length u) block =
    subst (λ (m : ℕ). HaveSize m block) (sym size)
    (All-take (λ unit. length unit ≡ s.settings.audio) 4 (drop ((length all - 1) / 4 * 4) all)
    (All-drop (λ unit. length unit ≡ s.settings.audio) ((length all - 1) / 4 * 4) all sizes)) in
    let kept : take (length block * s.settings.audio) mid ≡ concat block = kept-more s units u mid has size written in
    let far : 4 * length u ≡ length block * s.settings.audio = ap (λ (m : ℕ). m * length u) (sym four) ∙ ap (λ (m : ℕ). length block * m) size in
    let of_mid : take (4 * length u) mid ≡ concat block = ap (λ (m : ℕ). take m mid) far ∙ kept in
    let far' : length block * t.settings.audio ≡ 4 * length u = ap (λ (m : ℕ). length block * m) audio ∙ sym far in
    let Parity : ℕ → Type 0 = λ m. HasParityShards m block t.shards in
    record {
      count = omega (arith, count, has.count, one_more units u);
      sizes = subst Sizes (sym audio) sizes;
      ready = ready ∙ sym (cond-true (n % 4 == 3) 3 1 (eq-eqb (n % 4) 3 is_last)) ∙ sym (last-count t.settings units u) ∙ sym (ready-more t.settings units u);
      kept = ap (λ (m : ℕ). take m t.shards) far' ∙ front ∙ of_mid;
      whole = λ h. subst Parity to_unit (parity block four in_block of_mid);
    }

-- ---- the parity of a block

of_parts : (P : ℕ → Type 0) (xs ys : List ℕ) → All P (xs ++ ys) → All P xs × All P ys
of_parts P xs ys all = (
  subst (λ l. All P l) (take-append_seam xs ys) (All-take P (length xs) (xs ++ ys) all),
  subst (λ l. All P l) (drop-append-add xs ys 0) (All-drop P (length xs + 0) (xs ++ ys) all),
)

of_lists : (P : ℕ → Type 0) (lists : List (List ℕ)) → All P (concat lists) → All (All P) lists
of_lists P [] all = All-nil (All P)
of_lists P (list ∷ lists) all =
    let parts = of_parts P list (concat lists) all in
    All-cons (All P) list lists parts.0 (of_lists P lists parts.1)

-- what is written behind a block's units is their parity
pub encoded-parity : (size : ℕ) (units : List (List ℕ)) (front parity : List ℕ) (code : CodeShape) → length units ≡ 4 → HaveSize size units
    → front ≡ concat units → code ≡ audio_code → IsBlock code size (front ++ parity) → HasParityShards size units (front ++ parity)
encoded-parity size units front parity code four sizes front_is code_is block =
    let coded : IsBlock audio_code size (front ++ parity) = subst (λ c. IsBlock c size (front ++ parity)) code_is block in
    let laid : IsBlock audio_code size (concat units ++ parity) = subst (λ l. IsBlock audio_code size (l ++ parity)) front_is coded in
    let bytes = of_lists IsByte units (of_parts IsByte (concat units) parity laid.bytes).0 in
    ap (λ (l : List ℕ). l ++ parity) front_is
    ∙ block-is audio_code size units parity IsCode-audio (record { count = four; sizes = sizes; bytes = bytes }) laid
