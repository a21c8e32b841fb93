-- The file of generated ticks, written one by one.
use Rattle.std.proofs.Common.{inl, inr, ◌≡◌, ◌≢◌, ◌+◌, ◌≤◌, ◌++◌, ◌∷◌, ℕ, Option, Some, None, Result, Ok, Err, List, [], length, take, OnErr, OnOk, refl, sym}
use Rattle.std.proofs.Common.{ap, subst, ◌∙◌, arith, append_assoc, length-append}
use Rattle.std.specs.List.{flat_map, sum_by}
use Rattle.std.specs.Io.KnownBytes.{Appends}
use Rattle.std.proofs.KnownBytes.{Appends-nil, Appends-trans}
use Rattle.std.proofs.Math.Seq.{take-append-add}
use Rattle.std.proofs.lemmas.Bool.{cases_eq}
use Rattle.std.proofs.lemmas.List.{take-append-le}
use Rattle.std.proofs.lemmas.List.Sums.{sum_by-cons}
use Rattle.gs_bytes.specs.Outside.{AppendsPart}
use Rattle.gs_bytes.proofs.Cases.{on_err}
use Rattle.gs_tape.specs.Capture.{head, tick, file}
use Rattle.gs_tape.specs.Tick.{Tick, unit_bytes}
use Rattle.gs_tape.specs.Limits.{most_bytes, IsWithinLimits, AreWithinLimits, AreWritable}
use Rattle.gs_tape.specs.Writer.{TapeWriting, IsNextTick, after_tick, opened_writing}
use Rattle.gs_tape.specs.declared.write_error.WriteError.{WriteError}

-- what was written is the front of the whole, and the rest is that of these ticks and the end mark
pub record Written (whole : List ℕ) (rest : List Tick) (old now : Option (List ℕ)) : Type 0 where
  front : List ℕ
  done : Appends old now front
  parts : front ++ (flat_map tick rest ++ 0x45 ∷ []) ≡ whole

pub written_head : (audio duration : ℕ) (ts : List Tick) {old now : Option (List ℕ)} → Appends old now (head audio duration)
    → Written (file audio duration ts) ts old now
written_head audio duration ts done =
    record { front = head audio duration; done = done; parts = sym (append_assoc (head audio duration) (flat_map tick ts) (0x45 ∷ [])) }

pub written_on : (whole : List ℕ) (all ts : List Tick) (t : Tick) (old now now' : Option (List ℕ)) → all ≡ t ∷ ts
    → Written whole all old now → Appends now now' (tick t) → Written whole ts old now'
written_on whole all ts t old now now' is w more =
    let end : List ℕ = 0x45 ∷ [] in
    let Parts : List Tick → Type 0 = λ l. w.front ++ (flat_map tick l ++ end) ≡ whole in
    record {
      front = w.front ++ tick t;
      done = Appends-trans old now now' w.front (tick t) w.done more;
      parts = append_assoc w.front (tick t) (flat_map tick ts ++ end)
          ∙ ap (λ (l : List ℕ). w.front ++ l) (sym (append_assoc (tick t) (flat_map tick ts) end)) ∙ subst Parts is w.parts;
    }

pub written_end : (whole : List ℕ) (all : List Tick) (old now now' : Option (List ℕ)) → all ≡ []
    → Written whole all old now → Appends now now' (0x45 ∷ []) → Appends old now' whole
written_end whole all old now now' is w more =
    let Parts : List Tick → Type 0 = λ l. w.front ++ (flat_map tick l ++ 0x45 ∷ []) ≡ whole in
    let Whole : List ℕ → Type 0 = λ l. Appends old now' l in
    subst Whole (subst Parts is w.parts) (Appends-trans old now now' w.front (0x45 ∷ []) w.done more)

pub written_whole : {T E : Type 0} (r : Result T E) (whole : List ℕ) (all : List Tick) (old now now' : Option (List ℕ)) → all ≡ []
    → Written whole all old now → OnOk r (Appends now now' (0x45 ∷ [])) → OnOk r (Appends old now' whole)
written_whole (Ok x) whole all old now now' is w more = written_end whole all old now now' is w more
written_whole (Err e) whole all old now now' is w more = tt

-- a part of a front is a part of the whole
part_of_front : (old now : Option (List ℕ)) (xs ys whole : List ℕ) → xs ++ ys ≡ whole → AppendsPart old now xs → AppendsPart old now whole
part_of_front old now xs ys whole is (n, less, wrote) =
    let Part : List ℕ → Type 0 = λ l. AppendsPart old now l in
    let same = subst (Appends old now) (sym (take-append-le n xs ys (omega (arith, less)))) wrote in
    subst Part is (n, omega (arith, less, length-append xs ys), same)

-- behind a front a part of the rest was written
part_behind : (old now now' : Option (List ℕ)) (front rest whole : List ℕ) → front ++ rest ≡ whole → Appends old now front
    → AppendsPart now now' rest → AppendsPart old now' whole
part_behind old now now' front rest whole is done (n, less, wrote) =
    let Part : List ℕ → Type 0 = λ l. AppendsPart old now' l in
    let both = Appends-trans old now now' front (take n rest) done wrote in
    let same = subst (Appends old now') (sym (take-append-add front rest n)) both in
    subst Part is (length front + n, omega (arith, less, length-append front rest), same)

-- a part of the head was written
pub head_part : {T E : Type 0} (r : Result T E) (audio duration : ℕ) (ts : List Tick) (old now : Option (List ℕ))
    → AppendsPart old now (head audio duration) → OnErr r (AppendsPart old now (file audio duration ts))
head_part r audio duration ts old now part =
    on_err r _ (part_of_front old now (head audio duration) (flat_map tick ts ++ 0x45 ∷ []) (file audio duration ts) refl part)

-- nothing more was written
pub written_so_far : {T E : Type 0} (r : Result T E) (whole : List ℕ) (all : List Tick) (old now : Option (List ℕ)) → Written whole all old now
    → OnErr r (AppendsPart old now whole)
written_so_far r whole all old now w =
    let rest : List ℕ = flat_map tick all ++ 0x45 ∷ [] in
    on_err r _ (part_behind old now now w.front rest whole w.parts w.done (0, omega (arith, length-append (flat_map tick all) (0x45 ∷ [])), Appends-nil now))

-- a part of the next tick was written
pub written_tick_part : {T E : Type 0} (r : Result T E) (whole : List ℕ) (all ts : List Tick) (t : Tick) (old now now' : Option (List ℕ)) → all ≡ t ∷ ts
    → Written whole all old now → AppendsPart now now' (tick t) → OnErr r (AppendsPart old now' whole)
written_tick_part r whole all ts t old now now' is w part =
    let end : List ℕ = 0x45 ∷ [] in
    let Parts : List Tick → Type 0 = λ l. w.front ++ (flat_map tick l ++ end) ≡ whole in
    let rest : List ℕ = flat_map tick (t ∷ ts) ++ end in
    let more = part_of_front now now' (tick t) (flat_map tick ts ++ end) rest (sym (append_assoc (tick t) (flat_map tick ts) end)) part in
    on_err r _ (part_behind old now now' w.front rest whole (subst Parts is w.parts) w.done more)

-- a part of the end mark, which is nothing of it, was written
pub written_end_part : {T E : Type 0} (r : Result T E) (whole : List ℕ) (all : List Tick) (old now now' : Option (List ℕ)) → all ≡ []
    → Written whole all old now → OnErr r (AppendsPart now now' (0x45 ∷ [])) → OnErr r (AppendsPart old now' whole)
written_end_part (Ok x) whole all old now now' is w part = tt
written_end_part (Err e) whole all old now now' is w part =
    let Parts : List Tick → Type 0 = λ l. w.front ++ (flat_map tick l ++ 0x45 ∷ []) ≡ whole in
    part_behind old now now' w.front (0x45 ∷ []) whole (subst Parts is w.parts) w.done part

-- these ticks may be written next, one after another
pub record AreNext (w : TapeWriting) (ts : List Tick) : Type 0 where
  within : AreWithinLimits w.audio w.next.number w.next.time ts
  room : w.next.held + sum_by unit_bytes ts ≤ most_bytes

pub all_next : (audio duration : ℕ) (ts : List Tick) (w : TapeWriting) → w ≡ opened_writing audio → AreWritable audio duration ts → AreNext w ts
all_next audio duration ts w is h =
    let Next : TapeWriting → Type 0 = λ x. AreNext x ts in
    subst Next (sym is) (record { within = h.within; room = omega (arith, h.bytes_most) })

pub first_next : (w : TapeWriting) (all ts : List Tick) (t : Tick) → all ≡ t ∷ ts → AreNext w all → IsNextTick w t
first_next w all ts t is h =
    let Next : List Tick → Type 0 = λ l. AreNext w l in
    let n = subst Next is h in
    record { within = n.within.0; room = omega (arith, n.room, sum_by-cons unit_bytes t ts) }

pub others_next : (w w' : TapeWriting) (all ts : List Tick) (t : Tick) → all ≡ t ∷ ts → w' ≡ after_tick w t → AreNext w all → AreNext w' ts
others_next w w' all ts t is later h =
    let Next : List Tick → Type 0 = λ l. AreNext w l in
    let n = subst Next is h in
    let Later : TapeWriting → Type 0 = λ x. AreNext x ts in
    subst Later (sym later) (record { within = n.within.1; room = omega (arith, n.room, sum_by-cons unit_bytes t ts) })

-- a call that gave a value counted no fault
pub same_faults : {A : Type 0} (f f' : ℕ) (x : A) (e : WriteError) → (f' ≢ f → Ok x ≡ Err e) → f' ≡ f
same_faults f f' x e counted = elim (cases_eq f' f) [ inl same ↦ same | inr other ↦ absurd (let h = counted other in cc) ]
