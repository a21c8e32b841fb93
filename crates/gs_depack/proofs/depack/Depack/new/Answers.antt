use Rattle.std.proofs.Common.{◌<◌, ◌≤◌, ℕ, zero, suc, [], ◌∷◌, refl, sym, arith, lit≤}
use Rattle.std.specs.Prelude.{slice_index}
use Rattle.gs_depack.proofs.Standing.{first-stands}
use Rattle.gs_depack.proofs.depack.Depack.new.Goals as goal

zeros : (i : ℕ) → i < 4 → slice_index (0 ∷ 0 ∷ 0 ∷ 0 ∷ []) i ≤ 0
zeros zero h = lit≤ tt
zeros (suc zero) h = lit≤ tt
zeros (suc (suc zero)) h = lit≤ tt
zeros (suc (suc (suc zero))) h = lit≤ tt
zeros (suc (suc (suc (suc i)))) h = absurd (omega arith)

pub returns : goal.returns
returns c = λ s e. first-stands _ s (sym e) refl refl refl refl refl zeros
