use Rattle.std.proofs.Common.{◌≡◌, ℕ, None, false, true, not, arith, refl, ap, sym, ◌∙◌, length, get_or, take}
use Rattle.std.specs.Prelude.{is_some}
use Rattle.std.proofs.lemmas.List.{get_or_past, length-set}
use Rattle.std.specs.List.{list_any}
use Rattle.gs_enet.specs.Window.{in_window, passes, held_due}
use Rattle.gs_enet.proofs.Windows.{set-nothing, place_hits, drops_nothing, drops_one, none_due_after, sizes_after}
use Rattle.gs_enet.proofs.channel.Channel.acknowledge.Goals as goal

pub returns-then-place-len-clause-drops : goal.returns-then-place-len-clause-drops
returns-then-place-len-clause-drops c =
    let ch = c.args.self.now in
    let hits = place_hits c.args.number ch.first (length ch.window.items) c.from-place.result ch.spans (omega arith) c.from-place.ensures in
    let past = get_or_past ch.window.items c.from-place.result None (omega arith) in
    let drops = λ (k : ℕ). drops_nothing k c.args.number ch.first ch.window.items c.from-place.result hits (ap is_some past) in
    record { same = record { next = refl; heard = refl }; found = λ k. (drops k).0; held = λ k. (drops k).1 }

pub returns-then-not-clear-clause-drops : goal.returns-then-not-clear-clause-drops
returns-then-not-clear-clause-drops c =
    let ch = c.args.self.now in
    let hits = place_hits c.args.number ch.first (length ch.window.items) c.from-place.result ch.spans (omega arith) c.from-place.ensures in
    let empty : is_some (get_or ch.window.items c.from-place.result None) ≡ false = sym c.clear.ensures.found ∙ c.if-not-clear.true in
    let drops = λ (k : ℕ). drops_nothing k c.args.number ch.first ch.window.items c.from-place.result hits empty in
    let same = c.clear.ensures.after ∙ set-nothing ch.window.items c.from-place.result empty in
    record {
      same = record { next = omega (arith, ap length same); heard = refl };
      found = λ k. (drops k).0;
      held = λ k. ap (in_window k ch.first) same ∙ (drops k).1;
    }

pub invariant_of-self-2 : goal.invariant_of-self-2
invariant_of-self-2 c =
    let ch = c.args.self.now in
    let sizes = sizes_after ch.window.items _ c.skip_empty-skipped.new.window.items c.from-place.result c.skip_empty-skipped.result c.clear.ensures.after
    c.skip_empty-skipped.ensures.parts in
    let numbered = ch.numbered in
    let spans = ch.spans in
    let within = ch.within in
    let due = c.saturating_sub-self.ensures in
    record {
      counted = (let heard = ch.counted in heard);
      numbered = omega (arith, sizes, numbered);
      spans = omega (arith, sizes, spans);
      begins = c.skip_empty-skipped.ensures.front;
      within = omega (arith, sizes, within, due);
      none_due = ap (λ (n : ℕ). list_any (passes held_due) (take n c.skip_empty-skipped.new.window.items)) due
          ∙ none_due_after ch.window.items _ c.skip_empty-skipped.new.window.items ch.next_due c.from-place.result c.skip_empty-skipped.result within
          ch.none_due
          c.clear.ensures.after c.skip_empty-skipped.ensures.parts;
    }

pub returns-clause-drops : goal.returns-clause-drops
returns-clause-drops c =
    let ch = c.args.self.now in
    let hits = place_hits c.args.number ch.first (length ch.window.items) c.from-place.result ch.spans (omega arith) c.from-place.ensures in
    let sizes = sizes_after ch.window.items _ c.skip_empty-skipped.new.window.items c.from-place.result c.skip_empty-skipped.result c.clear.ensures.after
    c.skip_empty-skipped.ensures.parts in
    let drops = λ (k : ℕ). drops_one k c.args.number ch.first ch.window.items _ c.skip_empty-skipped.new.window.items c.from-place.result
    c.skip_empty-skipped.result hits (sym c.clear.ensures.found ∙ c.if-not-clear.false) c.clear.ensures.after c.skip_empty-skipped.ensures.parts in
    record { same = record { next = omega (arith, sizes); heard = refl }; found = λ k. (drops k).0; held = λ k. (drops k).1 }

pub returns-clause-settled : goal.returns-clause-settled
returns-clause-settled c = λ e.
    let ch = c.args.self.now in
    let sizes = sizes_after ch.window.items _ c.skip_empty-skipped.new.window.items c.from-place.result
    c.skip_empty-skipped.result c.clear.ensures.after c.skip_empty-skipped.ensures.parts in
    let due = c.saturating_sub-self.ensures in
    omega (arith, e, sizes, due)
