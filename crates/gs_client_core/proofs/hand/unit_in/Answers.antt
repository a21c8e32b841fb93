use Rattle.std.proofs.Common.{◌≡◌, ◌∙◌, Some, None, refl, sym}
use Rattle.gs_client_core.proofs.hand.unit_in.Goals as goal

pub returns-in-Some : goal.returns-in-Some
returns-in-Some c = λ client came packet queue.
    record {
      none = λ e. let no : Some c.in-Some.frame ≡ None = sym c.in-Some.is ∙ e in cc;
      some = λ h ready e.
          let both : Some c.in-Some.frame ≡ Some h.frame = sym c.in-Some.is ∙ e in
          c.unit_of.ensures client came h packet queue ready cc;
    }

pub returns-in-None : goal.returns-in-None
returns-in-None c = λ client came packet queue.
    record {
      none = λ e. refl;
      some = λ h ready e. let no : None ≡ Some h.frame = sym c.in-None.is ∙ e in cc;
    }
