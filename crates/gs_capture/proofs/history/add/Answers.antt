use Rattle.std.proofs.Common.{◌∙◌, ap, sym}
use Rattle.gs_capture.proofs.Adding.{adds_moves}
use Rattle.gs_capture.proofs.history.add.Goals as goal

pub compare_exchange-found-requires : goal.compare_exchange-found-requires
compare_exchange-found-requires c =
    let h = c.requires.head in
    let offer = c.plain-offer.ensures in
    let pen = c.no_pen-pen.ensures in
    let longer = c.again-longer.ensures in (
      ap (λ w. w.tracked) h,
      ap (λ s. s.book) longer ∙ sym (ap (λ w. w.book) h),
      pen.0 ∙ sym (ap (λ w. w.book) h),
      offer.0 ∙ sym (ap (λ s. s.names) longer),
      rw (ap (λ w. w.key) h, pen.1, offer.1, offer.3, ap (λ s. s.log) longer) (adds_moves c.args.front.now.log _ c.args.count (sym c.requires.count.0)),
    )
