use Rattle.std.proofs.Common.{◌+◌, sym, ap, ◌∙◌, arith, inl, inr}
use Rattle.std.proofs.lemmas.Bool.{cases_eq}
use Rattle.gs_gf256.specs.Field.{product}
use Rattle.gs_gf256.specs.Table.{times, table_at}
use Rattle.gs_rs.specs.Shape.{coefficient}
use Rattle.gs_rs.proofs.shape.CodeShape.row_tables.Goals as goal

pub loop-row-preserved : goal.loop-row-preserved
loop-row-preserved c = λ r i x below hi h.
    let row = c.loop-row.row in
    let rows = c.args.rows in
    let code = c.args.self.now in
    elim (cases_eq r row) [
      | inl this ↦
          ap (λ q. times c.write_tables.new.tables (table_at rows i q) x) this
          ∙ c.write_tables.ensures.written i x hi h
          ∙ ap (λ f. product f x) (c.coefficients.ensures i hi)
          ∙ ap (λ q. product (coefficient code (c.args.first + q) i) x) (sym this)
      | inr other ↦ c.write_tables.ensures.others i r x hi (omega arith) other h ∙ c.loop-row.invariant r i x (omega arith) hi h
    ]
