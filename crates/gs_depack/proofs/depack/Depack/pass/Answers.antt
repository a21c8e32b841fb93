use Rattle.std.proofs.Common.{◌≡◌, ◌+◌, ◌++◌, ℕ, suc, Bool, true, false, Some, None, sym, ap, subst, ◌∙◌, rules, add-one}
use Rattle.gs_frames.specs.KeptLaws.{is_handed_next}
use Rattle.gs_depack.specs.Depack.{noted_kind, Handing, HandsNext}
use Rattle.gs_depack.proofs.Passing.{pass-none, pass-by, pass-hands}
use Rattle.gs_depack.proofs.depack.Depack.pass.Goals as goal

pub returns-in_default-clause-hands : goal.returns-in_default-clause-hands
returns-in_default-clause-hands c = λ s came unnoted given stands.
    let d = c.args.self.now in
    let none : c.noted_as.result ≡ None = search rules in
    let noted : noted_kind d (suc d.passed) ≡ None = ap (noted_kind d) (sym (add-one d.passed)) ∙ sym c.noted_as.ensures ∙ none in
    subst (λ (n : ℕ). Handing (record d { passed = n }) s came unnoted given) (sym (add-one d.passed))
    (pass-none d s came unnoted given (record { stands = stands; more = c.requires }) noted)

pub returns-then-not-is_next-clause-hands : goal.returns-then-not-is_next-clause-hands
returns-then-not-is_next-clause-hands c = λ s came unnoted given stands.
    let d = c.args.self.now in
    let some : c.noted_as.result ≡ Some c.in-Some.kind = search rules in
    let noted : noted_kind d (suc d.passed) ≡ Some c.in-Some.kind = ap (noted_kind d) (sym (add-one d.passed)) ∙ sym c.noted_as.ensures ∙ some in
    let no : c.is_next.result ≡ false = search rules in
    let fails : is_handed_next d.last_handed d.waits_for_idr (suc d.passed) c.in-Some.kind ≡ false =
    ap (λ (n : ℕ). is_handed_next d.last_handed d.waits_for_idr n c.in-Some.kind) (sym (add-one d.passed)) ∙ sym c.is_next.ensures ∙ no in
    subst (λ (n : ℕ). Handing (record d { passed = n }) s came unnoted given) (sym (add-one d.passed))
    (pass-by d s came unnoted given c.in-Some.kind (record { stands = stands; more = c.requires }) noted fails)

pub returns-clause-hands : goal.returns-clause-hands
returns-clause-hands c = λ s came unnoted given stands.
    let d = c.args.self.now in
    let some : c.noted_as.result ≡ Some c.in-Some.kind = search rules in
    let noted : noted_kind d (suc d.passed) ≡ Some c.in-Some.kind = ap (noted_kind d) (sym (add-one d.passed)) ∙ sym c.noted_as.ensures ∙ some in
    let yes : c.is_next.result ≡ true = search rules in
    let passes : is_handed_next d.last_handed d.waits_for_idr (suc d.passed) c.in-Some.kind ≡ true =
    ap (λ (n : ℕ). is_handed_next d.last_handed d.waits_for_idr n c.in-Some.kind) (sym (add-one d.passed)) ∙ sym c.is_next.ensures ∙ yes in
    let hands = pass-hands d s came unnoted given c.in-Some.kind (record { stands = stands; more = c.requires }) noted passes in
    let Next : ℕ → Bool → Type 0 = λ n b.
    HandsNext (record d { passed = n; last_handed = n; waits_for_idr = b }) s came unnoted given n in
    let behind = subst (λ (b : Bool). Next (suc d.passed) b) (sym c.waits_behind-self.ensures) hands in
    subst (λ (n : ℕ). Next n c.waits_behind-self.result) (sym (add-one d.passed)) behind
