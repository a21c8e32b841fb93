use Rattle.std.proofs.Common.{Ok, Err, refl, ◌∙◌, arith, inl, inr}
use Rattle.std.proofs.lemmas.Bool.{cases_lt}
use Rattle.std.proofs.lemmas.List.Sorted.{searched}
use Rattle.gs_pair.proofs.Cuts.{rises_far}
use Rattle.gs_pair.proofs.InOrder.{held-once}
use Rattle.gs_pair.proofs.references.is_held_in_order.Goals as goal

pub returns-in-Ok-binary_search : goal.returns-in-Ok-binary_search
returns-in-Ok-binary_search c =
    let found = searched c.args.handed.now _ (Ok c.in-Ok-binary_search.place) c.in-Ok-binary_search.ensures.position
    (λ i j up within. rises_far c.args.handed.now i j c.requires.order up within) in
    held-once c.args.handed.now c.args.cuts.now c.in-Ok-binary_search.place c.args.number c.args.reference c.stands_before_in_order.result c.requires.order
    found.0 (found.1 ∙ c.in-Ok.ensures.1) c.stands_before_in_order.ensures

pub returns-in-Err : goal.returns-in-Err
returns-in-Err c =
    let none = searched c.args.handed.now _ (Err c.in-Err.field-0) c.in-Err.ensures.position
    (λ i j up within. rises_far c.args.handed.now i j c.requires.order up within) in (
      λ e place within at. elim (cases_lt place c.in-Err.field-0) [
        | inl below ↦ let less = none.1 place below in absurd (omega (arith, c.in-Ok.ensures.1, at))
        | inr above ↦ let more = none.2 place above within in absurd (omega (arith, c.in-Ok.ensures.1, at))
      ],
      λ all. refl,
    )
