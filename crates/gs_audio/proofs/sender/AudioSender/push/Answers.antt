use Rattle.std.proofs.Common.{◌≡◌, ◌≢◌, ◌+◌, ◌*◌, ◌%◌, ◌++◌, ℕ, List, length, take, refl, sym, ap, subst, ◌∙◌, arith}
use Rattle.std.specs.Vec.{with_items}
use Rattle.std.proofs.lemmas.List.{with_items_is}
use Rattle.gs_rtp.specs.Stream.{numbers_of}
use Rattle.gs_audio.specs.Sending.{Sending, HasParityShards, HasPushed}
use Rattle.gs_audio.proofs.Sent.{pushed-part, pushed-whole}
use Rattle.gs_audio.proofs.sender.AudioSender.push.Goals as goal

pub returns-then-place-lt-BLOCK_UNITS-clause-pushed : goal.returns-then-place-lt-BLOCK_UNITS-clause-pushed
returns-then-place-lt-BLOCK_UNITS-clause-pushed c = λ units has.
    let inside = c.self.inside in
    let s : Sending = record {
      settings = numbers_of inside.settings;
      pushed = inside.pushed;
      ready = inside.ready;
      shards = inside.shards.items;
    } in
    let u = c.args.unit.now in
    let size : length u ≡ inside.settings.audio = c.requires.size ∙ ap (λ (v : Sending). v.settings.audio) (sym c.self.view_is) in
    let part : inside.pushed % 4 + 1 ≢ 4 = λ e. absurd (omega arith) in
    let at = inside.pushed % 4 * length u in
    let written : take (at + length u) c.put.new.shards ≡ take at inside.shards.items ++ u =
    c.put.ensures ∙ ap (λ (l : List ℕ). take at l ++ u) c.deref_mut.ensures.value in
    let kept = with_items_is inside.shards c.put.new.shards (c.put.auto.shards ∙ ap length c.deref_mut.ensures.value ∙ sym inside.shards.ok.0) in
    pushed-part s _ units u (subst (λ (v : Sending). HasPushed v units) (sym c.self.view_is) has) size refl refl refl part
    (ap (λ (l : List ℕ). take (at + length u) l) kept ∙ written)

pub returns-clause-pushed : goal.returns-clause-pushed
returns-clause-pushed c = λ units has.
    let inside = c.self.inside in
    let s : Sending = record {
      settings = numbers_of inside.settings;
      pushed = inside.pushed;
      ready = inside.ready;
      shards = inside.shards.items;
    } in
    let u = c.args.unit.now in
    let size : length u ≡ inside.settings.audio = c.requires.size ∙ ap (λ (v : Sending). v.settings.audio) (sym c.self.view_is) in
    let last : inside.pushed % 4 + 1 ≡ 4 = omega arith in
    let at = inside.pushed % 4 * length u in
    let far = 4 * length u in
    let written : take (at + length u) c.put.new.shards ≡ take at inside.shards.items ++ u =
    c.put.ensures ∙ ap (λ (l : List ℕ). take at l ++ u) c.deref_mut.ensures.value in
    let mid = with_items inside.shards c.put.new.shards in
    let kept = with_items_is inside.shards c.put.new.shards (c.put.auto.shards ∙ ap length c.deref_mut.ensures.value ∙ sym inside.shards.ok.0) in
    let coded = with_items_is mid c.encode.new.shards (c.encode.auto.shards ∙ ap length c.deref_mut-2.ensures.value ∙ sym mid.ok.0) in
    let same = ap (λ (l : List ℕ). take far l) (c.deref_mut-2.ensures.value ∙ kept) in
    pushed-whole s _ units u c.put.new.shards (subst (λ (v : Sending). HasPushed v units) (sym c.self.view_is) has) size refl refl refl last written
    (ap (λ (l : List ℕ). take far l) coded ∙ c.encode.ensures.units ∙ same)
    (λ us four sizes laid.
    subst (λ (l : List ℕ). HasParityShards (length u) us l) (sym coded) (c.encode.ensures.parity us four sizes (same ∙ laid)))
