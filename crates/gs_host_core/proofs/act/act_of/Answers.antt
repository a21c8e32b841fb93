use Rattle.std.proofs.Common.{◌≡◌, refl, ap, ◌∙◌}
use Rattle.gs_host_core.specs.declared.act.Act.TheVariants as act
use Rattle.gs_host_core.specs.Acts.{act_for}
use Rattle.gs_host_core.proofs.Messages.{same_act}
use Rattle.gs_host_core.proofs.act.act_of.Goals as goal

pub returns-in-Ok-clause-act : goal.returns-in-Ok-clause-act
returns-in-Ok-clause-act c =
    let was = c.in-Ok.read in
    record {
      read = λ m is.
          let same : was ≡ m = cc ((c.in-Ok.ensures.message m).1 is) in c.act_in.ensures ∙ ap act_for same;
      other = λ none. absurd (none was ((c.in-Ok.ensures.message was).0 refl));
    }

pub returns-in-Ok-clause-value : goal.returns-in-Ok-clause-value
returns-in-Ok-clause-value c = same_act c.args.message.now c.act_in.result (returns-in-Ok-clause-act c)

pub returns-in-Err-clause-value : goal.returns-in-Err-clause-value
returns-in-Err-clause-value c =
    same_act c.args.message.now act.Nothing (record {
      read = λ m is. absurd (c.in-Err.ensures.none m is);
      other = λ none. refl;
    })
