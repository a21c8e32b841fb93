use Rattle.std.proofs.Common.{◌≡◌, ◌-◌, ◌^◌, ◌++◌, ℕ, List, Option, Some, false, [], sym, ap, subst, ◌∙◌}
use Rattle.std.specs.Prelude.{codes}
use Rattle.std.specs.Fmt.{decimal, digits, format_spec, padded_integral, styled_digits_output, DisplaysOnOk, ◌++?◌}
use Rattle.std.specs.Option.{option_map}
use Rattle.gsbench.specs.declared.report.Counted.{Counted}
use Rattle.gsbench.specs.Report.{counted_word, hex_word}
use Rattle.gsbench.proofs.Texts.{eight_wide}
use Rattle.gsbench.proofs.report.ReportDisplay.fmt.Goals as goal

pub returns-in-Bytes-clause-writes : goal.returns-in-Bytes-clause-writes
returns-in-Bytes-clause-writes g c =
    let report = c.args.self.now in
    let pad = padded_integral (format_spec 32 0 4 8 (2 ^ 64 - 1)) false [] in
    let word : styled_digits_output c.in_radix.result c.laid_out.result ≡ Some (hex_word report.checksum) =
    rw c.laid_out.ensures (ap (option_map pad) c.in_radix.ensures ∙ ap (λ (t : List ℕ). Some t) (eight_wide (digits 16 false report.checksum))) in
    let At : Option (List ℕ) → Type 0 = λ o. DisplaysOnOk g.W.Write.write_str_gives c.args.f.now c.write.result
    (Some (codes "checksum ") ++? (o ++? Some (codes " bytes " ++ decimal report.amount))) c.write.new.self in
    let Line : Counted → Type 0 = λ k. DisplaysOnOk g.W.Write.write_str_gives c.args.f.now c.write.result
    (Some (codes "checksum " ++ (hex_word report.checksum ++ (counted_word k ++ decimal report.amount)))) c.write.new.self in
    subst Line (sym c.in-Bytes.is) (subst At word c.write.ensures.writes)

pub returns-in-Calls-clause-writes : goal.returns-in-Calls-clause-writes
returns-in-Calls-clause-writes g c =
    let report = c.args.self.now in
    let pad = padded_integral (format_spec 32 0 4 8 (2 ^ 64 - 1)) false [] in
    let word : styled_digits_output c.in_radix-in-Calls.result c.laid_out-in-Calls.result ≡ Some (hex_word report.checksum) =
    rw c.laid_out-in-Calls.ensures (ap (option_map pad) c.in_radix-in-Calls.ensures
    ∙ ap (λ (t : List ℕ). Some t) (eight_wide (digits 16 false report.checksum))) in
    let At : Option (List ℕ) → Type 0 = λ o. DisplaysOnOk g.W.Write.write_str_gives c.args.f.now c.write-in-Calls.result
    (Some (codes "checksum ") ++? (o ++? Some (codes " calls " ++ decimal report.amount))) c.write-in-Calls.new.self in
    let Line : Counted → Type 0 = λ k. DisplaysOnOk g.W.Write.write_str_gives c.args.f.now c.write-in-Calls.result
    (Some (codes "checksum " ++ (hex_word report.checksum ++ (counted_word k ++ decimal report.amount)))) c.write-in-Calls.new.self in
    subst Line (sym c.in-Calls.is) (subst At word c.write-in-Calls.ensures.writes)
