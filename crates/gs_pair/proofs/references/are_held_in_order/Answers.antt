use Rattle.std.proofs.Common.{◌≡◌, ◌+◌, List, ◌∷◌, get_or, take, reverse, sym, subst, ◌∙◌, arith}
use Rattle.std.proofs.lemmas.Bool.{false≢true}
use Rattle.gs_refs.specs.declared.entry.Entry.{Entry}
use Rattle.gs_refs.specs.declared.entry.Entry.TheVariants.{Sent}
use Rattle.gs_refs.specs.History.{frames}
use Rattle.gs_refs.proofs.Walking.{reverse-more}
use Rattle.gs_pair.specs.References.{ReferencesHeldSince}
use Rattle.gs_pair.proofs.InOrder.{held-more, held-next, held-first}
use Rattle.gs_pair.proofs.references.are_held_in_order.Goals as goal

pub returns-then-not-is_entry_held : goal.returns-then-not-is_entry_held
returns-then-not-is_entry_held c =
    let entries = c.args.entries.now in
    let i = c.loop-entry.entry-index in
    let entry : Entry = get_or entries i (Sent 0 0 0) in
    let h = reverse (take i entries) in
    let Held : List Entry → Type 0 = λ l. ReferencesHeldSince l c.args.handed.now c.args.cuts.now in (
      λ e. absurd (false≢true e),
      λ held.
          let front = held-first entries (i + 1) c.args.handed.now c.args.cuts.now held in
          let now : Held (entry ∷ h) = subst Held (reverse-more entries i (Sent 0 0 0) (omega arith)) front in
          sym c.if-not-is_entry_held.true
          ∙ (c.is_entry_held.ensures h c.loop-entry.invariant.count).1 (held-next entry h c.args.handed.now c.args.cuts.now (c.loop-entry.sent + 1) now),
    )

pub loop-entry-preserved : goal.loop-entry-preserved
loop-entry-preserved c =
    let entries = c.args.entries.now in
    let i = c.loop-entry.entry-index in
    let entry : Entry = get_or entries i (Sent 0 0 0) in
    let h = reverse (take i entries) in
    let Held : List Entry → Type 0 = λ l. ReferencesHeldSince l c.args.handed.now c.args.cuts.now in
    let Count : List Entry → Type 0 = λ l. c.sent_with-sent.result ≡ frames l in
    let more = sym (reverse-more entries i (Sent 0 0 0) (omega arith)) in
    let count = c.loop-entry.invariant.count in
    let newest = (c.is_entry_held.ensures h count).0 c.if-not-is_entry_held.false in
    record {
      most = omega arith;
      count = subst Count more (c.sent_with-sent.ensures.count h count);
      held = subst Held more
          (held-more entry h c.args.handed.now c.args.cuts.now (c.loop-entry.sent + 1) (omega (arith, count)) c.loop-entry.invariant.held newest);
    }
