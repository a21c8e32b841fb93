use Rattle.std.proofs.Common.{◌≡◌, ◌≢◌, ℕ, ◌+◌, ◌*◌, ◌%◌, ◌/◌, ◌<◌, ◌≤◌, ◌⊎◌, get_or, sym, ap, ◌∙◌, arith, inl, inr}
use Rattle.std.proofs.lemmas.Bool.{cases_eq, cases_order}
use Rattle.std.proofs.lemmas.Nat.{row_fits, div-mul-add, mod-mul-add}
use Rattle.gs_gf256.specs.Field.{product}
use Rattle.gs_gf256.specs.Table.{times, table_at}
use Rattle.gs_rs.proofs.RowWrites.{times_kept}
use Rattle.gs_rs.proofs.group.write_tables.Goals as goal

-- two tables that are not the same
apart : (rows i r n s : ℕ) → r < rows → s < rows → (i ≢ n) ⊎ (r ≢ s)
    → (table_at rows i r + 32 ≤ table_at rows n s) ⊎ (table_at rows n s + 32 ≤ table_at rows i r)
apart rows i r n s hr hs other = elim (cases_order (i * rows + r) (n * rows + s)) [
  | inl same ↦ elim other [
    | inl h ↦ absurd (h (sym (div-mul-add i rows r hr) ∙ ap (λ m. m / rows) same ∙ div-mul-add n rows s hs))
    | inr h ↦ absurd (h (sym (mod-mul-add i rows r hr) ∙ ap (λ m. m % rows) same ∙ mod-mul-add n rows s hs))
  ]
  | inr (inl less) ↦ inl (omega arith)
  | inr (inr more) ↦ inr (omega arith)
]

inside : (rows count i r : ℕ) → i < count → r < rows → (i * rows + r) * 32 + 32 ≤ count * rows * 32
inside rows count i r hi hr = let fits = row_fits i rows count rows hi (omega arith) in omega arith

pub write_table-requires : goal.write_table-requires
write_table-requires c =
    let fits = inside c.args.rows c.args.count c.loop-i.i c.args.row c.loop-i-test.true c.requires.row_in in
    omega (arith, c.requires.room, c.loop-i.auto.tables)

pub loop-i-preserved : goal.loop-i-preserved
loop-i-preserved c =
    let n = c.loop-i.i in
    let rows = c.args.rows in
    let row = c.args.row in
    let now = c.loop-i.tables in
    let new = c.write_table.new.tables in
    let kept : (i r x : ℕ) → r < rows → (i ≢ n) ⊎ (r ≢ row) → x < 256
    → times new (table_at rows i r) x ≡ times now (table_at rows i r) x = λ i r x hr other h.
    times_kept now new (table_at rows i r) (table_at rows n row) x (apart rows i r n row hr c.requires.row_in other) h
    c.write_table.ensures.before c.write_table.ensures.after in
    record {
      written = λ i x below h. elim (cases_eq i n) [
        | inl this ↦
            ap (λ m. times new (table_at rows m row) x) this
            ∙ c.write_table.ensures.products x h
            ∙ ap (λ m. product (get_or c.args.factors.now m 0) x) (sym this)
        | inr other ↦ kept i row x c.requires.row_in (inl other) h ∙ c.loop-i.invariant.written i x (omega arith) h
      ];
      others = λ i r x hi hr other h. kept i r x hr (inr other) h ∙ c.loop-i.invariant.others i r x hi hr other h;
    }
