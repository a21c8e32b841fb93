-- Steps that are made one after another in a loop.
use Rattle.std.proofs.Common.{◌≡◌, ◌≢◌, ◌≤◌, ◌+◌, ◌-◌, ℕ, zero, suc, Bool, not, Option, Some, None, Result, Ok, Err, List, [], ◌∷◌, ◌++◌, length}
use Rattle.std.proofs.Common.{refl, sym, ap, subst, ◌∙◌, arith, append_assoc, append-nil, drop, drop-cons, ◌<◌}
use Rattle.std.specs.Prelude.{IfSome, slice_index}
use Rattle.std.specs.List.{AllByRecursion, sum_by}
use Rattle.std.proofs.lemmas.List.Sums.{sum_by_push}
use Rattle.std.specs.Io.KnownBytes.{Consumes, IsAtEnd}
use Rattle.std.proofs.lemmas.Bool.{eq-eqb, ne_eqb}
use Rattle.std.proofs.KnownBytes.{Consumes-trans}
use Rattle.gs_tape.specs.declared.error.TapeError.{TapeError}
use Rattle.gs_tape.specs.declared.error.TapeError.TheVariants as error
use Rattle.gs_tape.specs.Tick.{Delta}
use Rattle.gs_tape.specs.Limits.{AreDeltasBetween, most_unit}
use Rattle.gs_tape.specs.Reading.{Fault, Malformed, ◌>>=◌, unless, text_at}
use Rattle.gs_tape.specs.Errors.{TellsFault, fault_of}
use Rattle.gs_tape.specs.Steps.{StepOf, gives, then_read, field, text, delta, deltas, sounds}
use Rattle.gs_tape.specs.Streaming.{ReadsStep, ReadsTold, StopsInside}
use Rattle.gs_tape.proofs.Streams.{Fails, fails_first, fails_then, fails_unknown, reads_then, reads_made, reads_gives, Continues}

-- ---- deltas

pub deltas_more : (n m tick after held : ℕ) (d : Delta) (items : List Delta) {whole : StepOf (List Delta)} {old at at' : Option (List ℕ)}
    {place here here' : ℕ} → n ≡ suc m
    → Continues whole (deltas n tick after held) (λ ds. items ++ ds) old at place here
    → ReadsStep (delta tick after held) at at' here here' (Ok d)
    → Continues whole (deltas m tick d.named (held + length d.unit)) (λ ds. (items ++ d ∷ []) ++ ds) old at' place here'
unfolding deltas
deltas_more n m tick after held d items {whole = whole} {old = old} {at = at} {place = place} {here = here} is goes read =
    let Goes : ℕ → Type 0 = λ k. Continues whole (deltas k tick after held) (λ ds. items ++ ds) old at place here in
    let on = subst Goes is goes in
    let add : List Delta → List Delta = λ ds. d ∷ ds in
    record {
      fails = λ e new failed. on.fails e new (fails_then _ read (fails_first _ failed));
      reads = λ ds new place' more.
          let Whole : List Delta → Type 0 = λ all. ReadsStep whole old new place place' (Ok all) in
          subst Whole (sym (append_assoc items (d ∷ []) ds)) (on.reads (d ∷ ds) new place' (reads_then _ read (reads_made add more)));
    }

-- the same, where the values are known by equations
pub deltas_on : (n m tick after held named sum : ℕ) (d : Delta) (items items' : List Delta) {whole : StepOf (List Delta)} {old at at' : Option (List ℕ)}
    {place here here' : ℕ} → n ≡ suc m → items' ≡ items ++ d ∷ [] → named ≡ d.named → sum ≡ held + length d.unit
    → Continues whole (deltas n tick after held) (λ ds. items ++ ds) old at place here
    → ReadsStep (delta tick after held) at at' here here' (Ok d)
    → Continues whole (deltas m tick named sum) (λ ds. items' ++ ds) old at' place here'
deltas_on n m tick after held named sum d items items' {whole = whole} {old = old} {at' = at'} {place = place} {here' = here'} is all names sums goes read =
    let Sum : ℕ → Type 0 = λ k. Continues whole (deltas m tick named k) (λ ds. items' ++ ds) old at' place here' in
    let Named : ℕ → Type 0 = λ k. Continues whole (deltas m tick k (held + length d.unit)) (λ ds. items' ++ ds) old at' place here' in
    let Items : List Delta → Type 0 = λ l. Continues whole (deltas m tick d.named (held + length d.unit)) (λ ds. l ++ ds) old at' place here' in
    subst Sum (sym sums) (subst Named (sym names) (subst Items (sym all) (deltas_more n m tick after held d items is goes read)))

-- named ticks that rise go on behind one more delta
pub between_on : (tick after named : ℕ) (d : Delta) (items items' : List Delta) → items' ≡ items ++ d ∷ [] → named ≡ d.named
    → after < d.named → d.named < tick → length d.unit ≤ most_unit
    → ((ds : List Delta) → AreDeltasBetween after tick ds → AreDeltasBetween 0 tick (items ++ ds))
    → (ds : List Delta) → AreDeltasBetween named tick ds → AreDeltasBetween 0 tick (items' ++ ds)
between_on tick after named d items items' all names rises below most goes ds h =
    let From : ℕ → Type 0 = λ k. AreDeltasBetween k tick ds in
    let Between : List Delta → Type 0 = AreDeltasBetween 0 tick in
    subst Between (sym (append_assoc items (d ∷ []) ds) ∙ ap (λ (l : List Delta). l ++ ds) (sym all))
    (goes (d ∷ ds) (rises, below, most, subst From names h))

-- the sum of their bytes, with one more
pub sum_on : (held sum long : ℕ) (d : Delta) (items items' : List Delta) → items' ≡ items ++ d ∷ [] → long ≡ length d.unit
    → held + sum_by (λ x. length x.unit) items ≡ sum → held + sum_by (λ x. length x.unit) items' ≡ sum + long
sum_on held sum long d items items' all is sums =
    let bytes : Delta → ℕ = λ x. length x.unit in
    let whole : sum_by bytes items' ≡ sum_by bytes (items ++ d ∷ []) = ap (λ (l : List Delta). sum_by bytes l) all in
    let added : sum_by bytes (items ++ d ∷ []) ≡ sum_by bytes items + length d.unit = sum_by_push bytes items d in
    omega (arith, whole, added, is, sums)

pub deltas_fail : (n m tick after held : ℕ) (items : List Delta) {whole : StepOf (List Delta)} {old at new : Option (List ℕ)}
    {place here : ℕ} {e : TapeError} → n ≡ suc m
    → Continues whole (deltas n tick after held) (λ ds. items ++ ds) old at place here
    → Fails (delta tick after held) at new here e → Fails whole old new place e
unfolding deltas
deltas_fail n m tick after held items {whole = whole} {old = old} {at = at} {new = new} {place = place} {here = here} {e = e} is goes failed =
    let Goes : ℕ → Type 0 = λ k. Continues whole (deltas k tick after held) (λ ds. items ++ ds) old at place here in
    (subst Goes is goes).fails e new (fails_first _ failed)

pub deltas_done : (n tick after held : ℕ) (items : List Delta) {whole : StepOf (List Delta)} {old at : Option (List ℕ)}
    {place here : ℕ} → n ≡ 0
    → Continues whole (deltas n tick after held) (λ ds. items ++ ds) old at place here
    → ReadsStep whole old at place here (Ok items)
unfolding deltas
deltas_done n tick after held items {whole = whole} {old = old} {at = at} {place = place} {here = here} is goes =
    let Goes : ℕ → Type 0 = λ k. Continues whole (deltas k tick after held) (λ ds. items ++ ds) old at place here in
    let Whole : List Delta → Type 0 = λ all. ReadsStep whole old at place here (Ok all) in
    subst Whole (append-nil items) ((subst Goes is goes).reads [] at here (reads_gives [] at here))

-- ---- audio units

pub sounds_more : (n m each : ℕ) (u : List ℕ) (items : List (List ℕ)) {whole : StepOf (List (List ℕ))} {old at at' : Option (List ℕ)}
    {place here here' : ℕ} → n ≡ suc m
    → Continues whole (sounds n each) (λ us. items ++ us) old at place here
    → ReadsStep (field each) at at' here here' (Ok u)
    → Continues whole (sounds m each) (λ us. (items ++ u ∷ []) ++ us) old at' place here'
unfolding sounds
sounds_more n m each u items {whole = whole} {old = old} {at = at} {place = place} {here = here} is goes read =
    let Goes : ℕ → Type 0 = λ k. Continues whole (sounds k each) (λ us. items ++ us) old at place here in
    let on = subst Goes is goes in
    let add : List (List ℕ) → List (List ℕ) = λ us. u ∷ us in
    record {
      fails = λ e new failed. on.fails e new (fails_then _ read (fails_first _ failed));
      reads = λ us new place' more.
          let Whole : List (List ℕ) → Type 0 = λ all. ReadsStep whole old new place place' (Ok all) in
          subst Whole (sym (append_assoc items (u ∷ []) us)) (on.reads (u ∷ us) new place' (reads_then _ read (reads_made add more)));
    }

pub sounds_on : (n m each : ℕ) (u : List ℕ) (items items' : List (List ℕ)) {whole : StepOf (List (List ℕ))} {old at at' : Option (List ℕ)}
    {place here here' : ℕ} → n ≡ suc m → items' ≡ items ++ u ∷ []
    → Continues whole (sounds n each) (λ us. items ++ us) old at place here
    → ReadsStep (field each) at at' here here' (Ok u)
    → Continues whole (sounds m each) (λ us. items' ++ us) old at' place here'
sounds_on n m each u items items' {whole = whole} {old = old} {at' = at'} {place = place} {here' = here'} is all goes read =
    let Items : List (List ℕ) → Type 0 = λ l. Continues whole (sounds m each) (λ us. l ++ us) old at' place here' in
    subst Items (sym all) (sounds_more n m each u items is goes read)

-- units of one length, and one more
pub whole_on : (each : ℕ) (u : List ℕ) (items items' : List (List ℕ)) → items' ≡ items ++ u ∷ [] → length u ≡ each
    → AllByRecursion (λ v. length v ≡ each) items → AllByRecursion (λ v. length v ≡ each) items'
whole_on each u items items' all long whole =
    let Whole : List (List ℕ) → Type 0 = λ l. AllByRecursion (λ v. length v ≡ each) l in subst Whole (sym all) (added items whole)
  where
    added : (xs : List (List ℕ)) → AllByRecursion (λ v. length v ≡ each) xs → AllByRecursion (λ v. length v ≡ each) (xs ++ u ∷ [])
    added [] h = (long, tt)
    added (x ∷ xs) h = (h.0, added xs h.1)

pub sounds_fail : (n m each : ℕ) (items : List (List ℕ)) {whole : StepOf (List (List ℕ))} {old at new : Option (List ℕ)}
    {place here : ℕ} {e : TapeError} → n ≡ suc m
    → Continues whole (sounds n each) (λ us. items ++ us) old at place here
    → Fails (field each) at new here e → Fails whole old new place e
unfolding sounds
sounds_fail n m each items {whole = whole} {old = old} {at = at} {new = new} {place = place} {here = here} {e = e} is goes failed =
    let Goes : ℕ → Type 0 = λ k. Continues whole (sounds k each) (λ us. items ++ us) old at place here in
    (subst Goes is goes).fails e new (fails_first _ failed)

pub sounds_done : (n each : ℕ) (items : List (List ℕ)) {whole : StepOf (List (List ℕ))} {old at : Option (List ℕ)} {place here : ℕ}
    → n ≡ 0
    → Continues whole (sounds n each) (λ us. items ++ us) old at place here
    → ReadsStep whole old at place here (Ok items)
unfolding sounds
sounds_done n each items {whole = whole} {old = old} {at = at} {place = place} {here = here} is goes =
    let Goes : ℕ → Type 0 = λ k. Continues whole (sounds k each) (λ us. items ++ us) old at place here in
    let Whole : List (List ℕ) → Type 0 = λ all. ReadsStep whole old at place here (Ok all) in
    subst Whole (append-nil items) ((subst Goes is goes).reads [] at here (reads_gives [] at here))

-- ---- bytes that must stand there

-- what is left at a place is the byte there, and then what is left behind it
pub drop_next : (i : ℕ) (xs : List ℕ) → i < length xs → drop i xs ≡ slice_index xs i ∷ drop (i + 1) xs
drop_next i xs within = let e : i + 1 ≡ suc i = omega arith in drop-cons xs i 0 within ∙ ap (λ (k : ℕ). slice_index xs i ∷ drop k xs) (sym e)

text_step : (c size : ℕ) (cs rest : List ℕ) → text (c ∷ cs) size (c ∷ rest) ≡ text cs size rest
unfolding text text_at
text_step c size cs rest =
    ap (λ (b : Bool). unless (not b) (Malformed 1 (size - suc (length rest))) (text_at size cs rest) >>= (λ behind. Ok (tt, behind)))
    (eq-eqb c c refl)

text_other : (c b size : ℕ) (cs rest : List ℕ) → b ≢ c → text (c ∷ cs) size (b ∷ rest) ≡ Err (Malformed 1 (size - suc (length rest)))
unfolding text text_at
text_other c b size cs rest differs =
    ap (λ (t : Bool). unless (not t) (Malformed 1 (size - suc (length rest))) (text_at size cs rest) >>= (λ behind. Ok (tt, behind)))
    (ne_eqb b c differs)

text_end : (c size : ℕ) (cs : List ℕ) → text (c ∷ cs) size [] ≡ Err (Malformed 6 size)
unfolding text text_at
text_end c size cs = refl

-- the byte that must stand there, and then bytes that are cut
next_stops : (c : ℕ) (cs : List ℕ) (at at' new : Option (List ℕ)) (e : TapeError) → Consumes at at' (c ∷ [])
    → StopsInside (text cs) at' new e → StopsInside (text (c ∷ cs)) at new e
next_stops c cs None at' new error.TapeFault gone s = tt
next_stops c cs (Some bytes) None new error.TapeFault gone s = absurd gone
next_stops c cs (Some bytes) (Some rest) new error.TapeFault gone s =
    (c ∷ s.0, Consumes-trans (Some bytes) (Some rest) new (c ∷ []) s.0 gone s.1, λ size. text_step c size cs s.0 ∙ s.2 size)
next_stops c cs at at' new (error.BadTape kind place) gone s = tt
next_stops c cs at at' new (error.TapeFull tick) gone s = tt
next_stops c cs at at' new (error.UnitTooLarge tick) gone s = tt
next_stops c cs at at' new (error.AudioLength long) gone s = tt
next_stops c cs at at' new error.OutOfMemory gone s = tt

next_fails : (c : ℕ) (cs : List ℕ) (at at' new : Option (List ℕ)) (here : ℕ) (e : TapeError) → Consumes at at' (c ∷ [])
    → Fails (text cs) at' new (here + 1) e → Fails (text (c ∷ cs)) at new here e
next_fails c cs None at' new here e gone h = record { known = tt; front = next_stops c cs None at' new e gone h.front }
next_fails c cs (Some bytes) None new here e gone h = absurd gone
next_fails c cs (Some bytes) (Some rest) new here e gone h =
    let size : here + 1 + length rest ≡ here + length bytes = omega (arith, ap (λ (l : List ℕ). length l) gone) in
    let same : text (c ∷ cs) (here + length bytes) bytes ≡ text cs (here + 1 + length rest) rest =
    ap (λ (l : List ℕ). text (c ∷ cs) (here + length bytes) l) gone ∙ text_step c (here + length bytes) cs rest
    ∙ ap (λ (s : ℕ). text cs s rest) (sym size) in
    let T : Result (Unit {0} × List ℕ) Fault → Type 0 = λ r. TellsFault e r in
    record { known = subst T (sym same) h.known; front = next_stops c cs (Some bytes) (Some rest) new e gone h.front }

next_reads : (c : ℕ) (cs : List ℕ) (at at' new : Option (List ℕ)) (here place' : ℕ) (y : Unit {0}) → Consumes at at' (c ∷ [])
    → ReadsStep (text cs) at' new (here + 1) place' (Ok y) → ReadsStep (text (c ∷ cs)) at new here place' (Ok y)
next_reads c cs None at' new here place' y gone h = record { told = tt; front = tt }
next_reads c cs (Some bytes) None new here place' y gone h = absurd gone
next_reads c cs (Some bytes) (Some rest) new here place' y gone h =
    let size : here + 1 + length rest ≡ here + length bytes = omega (arith, ap (λ (l : List ℕ). length l) gone) in
    let same : text (c ∷ cs) (here + length bytes) bytes ≡ text cs (here + 1 + length rest) rest =
    ap (λ (l : List ℕ). text (c ∷ cs) (here + length bytes) l) gone ∙ text_step c (here + length bytes) cs rest
    ∙ ap (λ (s : ℕ). text cs s rest) (sym size) in
    record {
      told = (h.told.0, h.told.1, sym size ∙ h.told.2, same ∙ h.told.3);
      front = (
        c ∷ h.front.0,
        Consumes-trans (Some bytes) (Some rest) new (c ∷ []) h.front.0 gone h.front.1,
        λ s behind. text_step c s cs (h.front.0 ++ behind) ∙ h.front.2 s behind,
      );
    }

pub text_more : (c : ℕ) (left cs : List ℕ) {whole : StepOf (Unit {0})} {old at at' : Option (List ℕ)} {place here here' : ℕ}
    → left ≡ c ∷ cs → here' ≡ here + 1
    → Continues whole (text left) (λ x. x) old at place here → Consumes at at' (c ∷ [])
    → Continues whole (text cs) (λ x. x) old at' place here'
text_more c left cs {whole = whole} {old = old} {at = at} {at' = at'} {place = place} {here = here} is moved goes gone =
    let Goes : List ℕ → Type 0 = λ l. Continues whole (text l) (λ x. x) old at place here in
    let on = subst Goes is goes in
    let After : ℕ → Type 0 = λ p. Continues whole (text cs) (λ x. x) old at' place p in
    subst After (sym moved) (record {
      fails = λ e new h. on.fails e new (next_fails c cs at at' new here e gone h);
      reads = λ y new place' h. on.reads y new place' (next_reads c cs at at' new here place' y gone h);
    })

end_fails : (c : ℕ) (cs : List ℕ) (at new : Option (List ℕ)) (here : ℕ) → IsAtEnd at → Fails (text (c ∷ cs)) at new here (error.BadTape 6 here)
end_fails c cs None new here end = record { known = tt; front = tt }
end_fails c cs (Some bytes) new here end =
    let size : here + length bytes ≡ here = omega (arith, ap (λ (l : List ℕ). length l) end) in
    record {
      known = ap (λ (l : List ℕ). text (c ∷ cs) (here + length bytes) l) end ∙ text_end c (here + length bytes) cs
          ∙ ap (λ (s : ℕ). Err (Malformed 6 s)) size;
      front = tt;
    }

pub text_cut : (c : ℕ) (left cs : List ℕ) {whole : StepOf (Unit {0})} {old at new : Option (List ℕ)} {place here : ℕ}
    → left ≡ c ∷ cs → Continues whole (text left) (λ x. x) old at place here → IsAtEnd at → Fails whole old new place (error.BadTape 6 here)
text_cut c left cs {whole = whole} {old = old} {at = at} {new = new} {place = place} {here = here} is goes end =
    let Goes : List ℕ → Type 0 = λ l. Continues whole (text l) (λ x. x) old at place here in
    (subst Goes is goes).fails (error.BadTape 6 here) new (end_fails c cs at new here end)

-- no byte came where one must stand
none_stops : (c : ℕ) (cs : List ℕ) (at at' : Option (List ℕ)) (e : TapeError) → (e ≡ error.TapeFault → Consumes at at' [])
    → StopsInside (text (c ∷ cs)) at at' e
none_stops c cs None at' error.TapeFault gone = tt
none_stops c cs (Some bytes) at' error.TapeFault gone = ([], gone refl, λ size. text_end c size cs)
none_stops c cs at at' (error.BadTape kind place) gone = tt
none_stops c cs at at' (error.TapeFull tick) gone = tt
none_stops c cs at at' (error.UnitTooLarge tick) gone = tt
none_stops c cs at at' (error.AudioLength long) gone = tt
none_stops c cs at at' error.OutOfMemory gone = tt

pub text_stops : (c : ℕ) (left cs : List ℕ) {whole : StepOf (Unit {0})} {old at at' : Option (List ℕ)} {place here : ℕ} {e : TapeError}
    → left ≡ c ∷ cs → Continues whole (text left) (λ x. x) old at place here → fault_of e ≡ None → (e ≡ error.TapeFault → Consumes at at' [])
    → Fails whole old at' place e
text_stops c left cs {whole = whole} {old = old} {at = at} {at' = at'} {place = place} {here = here} {e = e} is goes none gone =
    let Goes : List ℕ → Type 0 = λ l. Continues whole (text l) (λ x. x) old at place here in
    (subst Goes is goes).fails e at' (fails_unknown none (none_stops c cs at at' e gone))

other_fails : (c b : ℕ) (cs : List ℕ) (at at' new : Option (List ℕ)) (here : ℕ) → b ≢ c → Consumes at at' (b ∷ [])
    → Fails (text (c ∷ cs)) at new here (error.BadTape 1 here)
other_fails c b cs None at' new here differs gone = record { known = tt; front = tt }
other_fails c b cs (Some bytes) None new here differs gone = absurd gone
other_fails c b cs (Some bytes) (Some rest) new here differs gone =
    let at : here + length bytes - suc (length rest) ≡ here = omega (arith, ap (λ (l : List ℕ). length l) gone) in
    record {
      known = ap (λ (l : List ℕ). text (c ∷ cs) (here + length bytes) l) gone ∙ text_other c b (here + length bytes) cs rest differs
          ∙ ap (λ (p : ℕ). Err (Malformed 1 p)) at;
      front = tt;
    }

pub text_differs : (c b : ℕ) (left cs : List ℕ) (at' : Option (List ℕ)) {whole : StepOf (Unit {0})} {old at new : Option (List ℕ)} {place here : ℕ}
    → left ≡ c ∷ cs → b ≢ c → Continues whole (text left) (λ x. x) old at place here → Consumes at at' (b ∷ [])
    → Fails whole old new place (error.BadTape 1 here)
text_differs c b left cs at' {whole = whole} {old = old} {at = at} {new = new} {place = place} {here = here} is differs goes gone =
    let Goes : List ℕ → Type 0 = λ l. Continues whole (text l) (λ x. x) old at place here in
    (subst Goes is goes).fails (error.BadTape 1 here) new (other_fails c b cs at at' new here differs gone)

pub text_done : (left : List ℕ) {whole : StepOf (Unit {0})} {old at : Option (List ℕ)} {place here : ℕ}
    → left ≡ [] → Continues whole (text left) (λ x. x) old at place here → ReadsStep whole old at place here (Ok tt)
unfolding text text_at
text_done left {whole = whole} {old = old} {at = at} {place = place} {here = here} is goes =
    let Goes : List ℕ → Type 0 = λ l. Continues whole (text l) (λ x. x) old at place here in
    (subst Goes is goes).reads tt at here (nothing at)
  where
    nothing : (o : Option (List ℕ)) → ReadsStep (text []) o o here here (Ok tt)
    nothing None = record { told = tt; front = tt }
    nothing (Some bytes) = record { told = (bytes, refl, refl, refl); front = ([], refl, λ size behind. refl) }
