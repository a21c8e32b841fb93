use Rattle.std.proofs.Common.{◌≡◌, ◌+◌, ◌-◌, ◌*◌, ◌≤◌, length, get_or, sym, ap, ◌∙◌, arith, inl, inr}
use Rattle.std.proofs.lemmas.Bool.{cases_eq}
use Rattle.std.proofs.lemmas.Nat.{row_fits}
use borrow.Rule.Slice.PartMut.{put_mid}
use Rattle.gs_gf256.specs.Field.{product, field_sum}
use Rattle.gs_rs.specs.Shape.{coefficient}
use Rattle.gs_rs.proofs.Writes.{put_shard_same, put_shard_other}
use Rattle.gs_rs.proofs.shape.CodeShape.encode_rows.Goals as goal

pub loop-row-preserved : goal.loop-row-preserved
loop-row-preserved c = λ row k below hk.
    let this = c.loop-row.row in
    let len = c.args.len in
    let p = c.args.self.now.parity in
    let size : length c.loop-row.parity ≡ p * len = c.loop-row.auto.parity ∙ c.encode_groups-made.auto.parity ∙ c.requires.parity_size in
    let written : length c.encode_row.new.out ≡ len = c.encode_row.auto.out ∙ omega arith in
    let room : this * len + len ≤ length c.loop-row.parity = omega (arith, row_fits this len p len c.loop-row-test.true (omega arith)) in
    let all = put_mid (this * len) ((this * len + len) - this * len) c.loop-row.parity c.encode_row.new.out in
    elim (cases_eq row this) [
      | inl same ↦
          ap (λ r. get_or all (r * len + k) 0) same
          ∙ put_shard_same len this k _ c.loop-row.parity c.encode_row.new.out room written hk
          ∙ c.encode_row.ensures k hk
          ∙ ap (λ r. field_sum (λ i. product (coefficient c.args.self.now r i) (get_or c.args.source.now (i * len + k) 0)) c.args.self.now.data) (sym same)
      | inr other ↦
          put_shard_other len this row k _ c.loop-row.parity c.encode_row.new.out (omega arith) room written other hk
          ∙ c.loop-row.invariant row k (omega arith) hk
    ]
