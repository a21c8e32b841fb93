use Rattle.std.proofs.Common.{◌≡◌, ◌+◌, ◌%◌, ◌^◌, ◌∙◌, ℕ, length, refl, sym, ap, subst, arith}
use Rattle.gs_rtp.specs.Stream.{numbers_of}
use Rattle.gs_frames.specs.Datagrams.{frame_shards, frame_datagrams}
use Rattle.gs_split.specs.Splitting.{Splitting, frame_behind, has_parity_at, next_count}
use Rattle.gs_split.specs.Loaded.{loaded_outgoing}
use Rattle.gs_split.proofs.CountsAgree.{same-shards, keeps-same}
use Rattle.gs_split.proofs.WrittenFrames.{datagrams-length}
use Rattle.gs_split.proofs.splitter.Splitter.load.Goals as goal

pub returns-clause-number : goal.returns-clause-number
returns-clause-number c =
    let f = c.plan-loaded.result in
    subst (λ (v : Splitting). (count : ℕ)
    → f.datagrams ≡ length (frame_datagrams v.settings (frame_behind count c.args.frame c.args.kind c.args.time c.args.unit.now)))
    c.self.view_is
    (λ count. sym (datagrams-length (numbers_of c.self.inside.settings) f (frame_behind count c.args.frame c.args.kind c.args.time c.args.unit.now)
    c.plan-loaded.ensures.planned (sym c.plan-loaded.ensures.unit_length)))

pub returns-clause-loaded : goal.returns-clause-loaded
returns-clause-loaded c = λ count agrees.
    let s = numbers_of c.self.inside.settings in
    let f = c.plan-loaded.result in
    let unit = c.args.unit.now in
    let sent = frame_behind count c.args.frame c.args.kind c.args.time unit in
    let out = loaded_outgoing f unit in
    let ensured = c.plan-loaded.ensures in
    let next : count % 2 ^ 32 ≡ (c.self.inside.loaded.count + c.self.inside.loaded.datagrams) % 2 ^ 32 =
    agrees ∙ ap next_count (sym c.self.view_is) in
    let counted : count % 2 ^ 32 ≡ f.count = next ∙ sym ensured.count in
    let unit_length : f.unit_length ≡ length unit = ensured.unit_length in
    let same : frame_shards s out ≡ frame_shards s sent =
    same-shards s out sent (omega (arith, counted)) ensured.frame ensured.kind ensured.time refl in
    record {
      count_agrees = counted;
      frame_is = ensured.frame;
      kind_is = ensured.kind;
      time_is = ensured.time;
      unit_length_is = unit_length;
      datagrams_are = sym (datagrams-length s f sent ensured.planned (sym unit_length));
      keeps = λ parity. keeps-same s out sent c.keep_shards.new.kept.items same
          (c.keep_shards.ensures.shards (ap (λ (n : ℕ). has_parity_at s n) unit_length ∙ parity));
    }
