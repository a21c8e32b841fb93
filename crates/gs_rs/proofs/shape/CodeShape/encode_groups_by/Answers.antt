use Rattle.std.proofs.Common.{◌≡◌, ℕ, ◌+◌, ◌*◌, ◌<◌, ◌≤◌, List, length, get_or, take, subst, sym, ◌∙◌, arith}
use Rattle.std.proofs.lemmas.List.{get_or_default, get_or-take, length-take-le}
use Rattle.std.proofs.lemmas.Nat.{row_fits}
use Rattle.gs_rs.proofs.RowWrites.{has_more, rows_fit}
use Rattle.gs_rs.proofs.shape.CodeShape.encode_groups_by.Goals as goal

numbers_at : (d : ℕ) (numbers : List ℕ) → ((i : ℕ) → i < d → get_or numbers i 0 ≡ i) → (i : ℕ) → i < d → get_or (take d numbers) i 0 ≡ i
numbers_at d numbers at i h = get_or-take d numbers i 0 h ∙ at i h

pub loop-row-preserved : goal.loop-row-preserved
loop-row-preserved c =
    let code = c.args.self.now in
    let d = code.data in
    let numbers = c.first_numbers-numbers.result in (
      omega arith,
      has_more code c.args.len 4 c.loop-row.row c.args.source.now (take d numbers) _ c.loop-row.parity c.encode_four.new.parity
          (length-take-le d numbers (omega arith)) (numbers_at d numbers c.first_numbers-numbers.ensures)
          c.row_tables.ensures (λ j. (c.type_inv.source j).fits) c.loop-row.invariant.1 c.encode_four.ensures,
    )

pub encode_four-requires-clause-parity_in : goal.encode_four-requires-clause-parity_in
encode_four-requires-clause-parity_in c =
    let fits = rows_fit c.loop-row.row 4 c.args.self.now.parity c.args.len (omega arith) in
    omega (arith, c.loop-row.auto.parity, c.requires.parity_size)

pub encode_two-requires-clause-numbers_in : goal.encode_two-requires-clause-numbers_in
encode_two-requires-clause-numbers_in c = λ i e h.
    let d = c.args.self.now.data in
    let len = c.args.len in
    let numbers = c.first_numbers-numbers.result in
    let size = length-take-le d numbers (omega arith) in
    let this : get_or (take d numbers) i e ≡ i = get_or_default (take d numbers) i e 0 h
    ∙ numbers_at d numbers c.first_numbers-numbers.ensures i (omega arith) in
    let fits = row_fits i len d len (omega arith) (omega arith) in
    subst (λ n. n * len + len ≤ length c.args.source.now) (sym this) (omega (arith, c.requires.source_size))

pub encode_two-requires-clause-parity_in : goal.encode_two-requires-clause-parity_in
encode_two-requires-clause-parity_in c =
    let fits = rows_fit c.loop-row.row 2 c.args.self.now.parity c.args.len (omega arith) in
    omega (arith, c.loop-row.auto.parity, c.requires.parity_size)

pub returns-then-self-row-ge2-clause-made : goal.returns-then-self-row-ge2-clause-made
returns-then-self-row-ge2-clause-made c =
    let code = c.args.self.now in
    let d = code.data in
    let numbers = c.first_numbers-numbers.result in
    has_more code c.args.len 2 c.loop-row.row c.args.source.now (take d numbers) _ c.loop-row.parity c.encode_two.new.parity
    (length-take-le d numbers (omega arith)) (numbers_at d numbers c.first_numbers-numbers.ensures)
    c.row_tables-then-self-row-ge2.ensures (λ j. (c.type_inv.source j).fits) c.loop-row.invariant.1 c.encode_two.ensures
