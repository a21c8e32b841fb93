use Rattle.std.proofs.Common.{[], ◌∷◌, ℕ, refl, sym, subst, ap}
use Rattle.gs_schedule.specs.declared.step.Step.{Step}
use Rattle.gs_run.specs.Deed.{In, TakeAudio, TakeDown, TakeUp, TakeVideo}
use Rattle.gs_run.specs.Done.{ran}
use Rattle.gs_run.specs.Line.{AreDeeds}
use Rattle.gs_trial.specs.Stepping.{StepsIfTold}
use Rattle.gs_trial.proofs.Told.{told_as}
use Rattle.gs_trial.proofs.Taking.{takes_none}
use Rattle.gs_report.proofs.Reported.{with_none}
use Rattle.gs_trial.proofs.trial.Trial.step.Goals as goal

pub returns-in-Blank-clause-ran : goal.returns-in-Blank-clause-ran
unfolding ran
returns-in-Blank-clause-ran g c = λ file state stands. record {
  deeds = [];
  are_deeds = subst (λ (s : Step). AreDeeds file s state []) (sym c.in-Blank.is) refl;
  ran_as = record { ran = record { refused_is = refl; text = sym (with_none c.args.self.now.reporter) }; stands = stands };
}

pub returns-in-Session-clause-ran : goal.returns-in-Session-clause-ran
returns-in-Session-clause-ran g c = λ file state stands.
    told_as file _ _ state _ _ _ _ _ _ c.in-Session.is refl (c.open.ensures.ran file _ state stands)

pub returns-in-Send-clause-ran : goal.returns-in-Send-clause-ran
returns-in-Send-clause-ran g c = λ file state stands.
    told_as file _ _ state _ _ _ _ _ _ c.in-Send.is refl (c.turn.ensures.ran file _ state stands)

pub returns-in-Video-clause-ran : goal.returns-in-Video-clause-ran
returns-in-Video-clause-ran g c = λ file state stands.
    told_as file _ _ state _ _ _ _ _ _ c.in-Video.is (ap (λ (k : ℕ). In c.in-Video.session (TakeVideo k) ∷ []) c.from.ensures)
    (c.deliver.ensures.ran file _ state stands)

pub returns-in-Audio-clause-ran : goal.returns-in-Audio-clause-ran
returns-in-Audio-clause-ran g c = λ file state stands.
    told_as file _ _ state _ _ _ _ _ _ c.in-Audio.is (ap (λ (k : ℕ). In c.in-Audio.session (TakeAudio k) ∷ []) c.from-in-Audio.ensures)
    (c.deliver-in-Audio.ensures.ran file _ state stands)

pub returns-in-Up-clause-ran : goal.returns-in-Up-clause-ran
returns-in-Up-clause-ran g c = λ file state stands.
    told_as file _ _ state _ _ _ _ _ _ c.in-Up.is (ap (λ (k : ℕ). In c.in-Up.session (TakeUp k) ∷ []) c.from-in-Up.ensures)
    (c.deliver-in-Up.ensures.ran file _ state stands)

pub returns-in-Down-clause-ran : goal.returns-in-Down-clause-ran
returns-in-Down-clause-ran g c = λ file state stands.
    told_as file _ _ state _ _ _ _ _ _ c.in-Down.is (ap (λ (k : ℕ). In c.in-Down.session (TakeDown k) ∷ []) c.from-in-Down.ensures)
    (c.deliver-in-Down.ensures.ran file _ state stands)

pub returns-in-Videos-clause-ran : goal.returns-in-Videos-clause-ran
returns-in-Videos-clause-ran g c = λ file state stands.
    told_as file _ _ state _ _ _ _ _ _ c.in-Videos.is refl (c.deliver_videos.ensures.ran file _ state stands)

pub returns-in-Input-clause-ran : goal.returns-in-Input-clause-ran
returns-in-Input-clause-ran g c = λ file state stands.
    told_as file _ _ state _ _ _ _ _ _ c.in-Input.is refl (c.give.ensures.ran file _ state stands)

pub returns-in-Idr-clause-ran : goal.returns-in-Idr-clause-ran
returns-in-Idr-clause-ran g c = λ file state stands.
    told_as file _ _ state _ _ _ _ _ _ c.in-Idr.is refl (c.ask_idr.ensures.ran file _ state stands)

pub returns-in-Time-clause-ran : goal.returns-in-Time-clause-ran
returns-in-Time-clause-ran g c = λ file state stands.
    told_as file _ _ state _ _ _ _ _ _ c.in-Time.is refl (c.pass.ensures.ran file _ state stands)

pub returns-in-Close-clause-ran : goal.returns-in-Close-clause-ran
returns-in-Close-clause-ran g c = λ file state stands.
    told_as file _ _ state _ _ _ _ _ _ c.in-Close.is refl (c.close.ensures.ran file _ state stands)

pub returns-in-Reset-clause-ran : goal.returns-in-Reset-clause-ran
returns-in-Reset-clause-ran g c = λ file state stands.
    told_as file _ _ state _ _ _ _ _ _ c.in-Reset.is refl (c.reset.ensures.ran file _ state stands)

pub returns-in-Pump-clause-ran : goal.returns-in-Pump-clause-ran
returns-in-Pump-clause-ran g c = λ file state stands.
    subst (λ (s : Step). StepsIfTold file s state (g.S.Outside.left c.args.tape.now) c.pump.new.self c.args.self.now.reporter c.pump.new.self.reporter
    c.pump.result) (sym c.in-Pump.is)
    (c.pump.ensures.ran file _ state stands)

pub returns-in-Blank-clause-bytes : goal.returns-in-Blank-clause-bytes
returns-in-Blank-clause-bytes g c = λ bytes had. had

pub returns-in-Cap-clause-bytes : goal.returns-in-Cap-clause-bytes
returns-in-Cap-clause-bytes g c = c.capture.ensures.bytes

pub returns-in-Session-clause-bytes : goal.returns-in-Session-clause-bytes
returns-in-Session-clause-bytes g c = λ bytes had.
    takes_none c.args.self.now.feed c.open.new.self.feed c.open.result bytes _ c.open.ensures.feed c.open.ensures.own had

pub returns-in-Send-clause-bytes : goal.returns-in-Send-clause-bytes
returns-in-Send-clause-bytes g c = λ bytes had.
    takes_none c.args.self.now.feed c.turn.new.self.feed c.turn.result bytes _ c.turn.ensures.feed c.turn.ensures.own had

pub returns-in-Video-clause-bytes : goal.returns-in-Video-clause-bytes
returns-in-Video-clause-bytes g c = λ bytes had.
    takes_none c.args.self.now.feed c.deliver.new.self.feed c.deliver.result bytes _ c.deliver.ensures.feed c.deliver.ensures.own had

pub returns-in-Audio-clause-bytes : goal.returns-in-Audio-clause-bytes
returns-in-Audio-clause-bytes g c = λ bytes had.
    takes_none c.args.self.now.feed c.deliver-in-Audio.new.self.feed c.deliver-in-Audio.result bytes _ c.deliver-in-Audio.ensures.feed
    c.deliver-in-Audio.ensures.own had

pub returns-in-Videos-clause-bytes : goal.returns-in-Videos-clause-bytes
returns-in-Videos-clause-bytes g c = λ bytes had.
    takes_none c.args.self.now.feed c.deliver_videos.new.self.feed c.deliver_videos.result bytes _ c.deliver_videos.ensures.feed
    c.deliver_videos.ensures.own had

pub returns-in-Up-clause-bytes : goal.returns-in-Up-clause-bytes
returns-in-Up-clause-bytes g c = λ bytes had.
    takes_none c.args.self.now.feed c.deliver-in-Up.new.self.feed c.deliver-in-Up.result bytes _ c.deliver-in-Up.ensures.feed c.deliver-in-Up.ensures.own had

pub returns-in-Down-clause-bytes : goal.returns-in-Down-clause-bytes
returns-in-Down-clause-bytes g c = λ bytes had.
    takes_none c.args.self.now.feed c.deliver-in-Down.new.self.feed c.deliver-in-Down.result bytes _ c.deliver-in-Down.ensures.feed
    c.deliver-in-Down.ensures.own had

pub returns-in-Input-clause-bytes : goal.returns-in-Input-clause-bytes
returns-in-Input-clause-bytes g c = λ bytes had.
    takes_none c.args.self.now.feed c.give.new.self.feed c.give.result bytes _ c.give.ensures.feed c.give.ensures.own had

pub returns-in-Idr-clause-bytes : goal.returns-in-Idr-clause-bytes
returns-in-Idr-clause-bytes g c = λ bytes had.
    takes_none c.args.self.now.feed c.ask_idr.new.self.feed c.ask_idr.result bytes _ c.ask_idr.ensures.feed c.ask_idr.ensures.own had

pub returns-in-Time-clause-bytes : goal.returns-in-Time-clause-bytes
returns-in-Time-clause-bytes g c = λ bytes had.
    takes_none c.args.self.now.feed c.pass.new.self.feed c.pass.result bytes _ c.pass.ensures.feed c.pass.ensures.own had

pub returns-in-Pump-clause-bytes : goal.returns-in-Pump-clause-bytes
returns-in-Pump-clause-bytes g c = λ bytes had.
    takes_none c.args.self.now.feed c.pump.new.self.feed c.pump.result bytes _ c.pump.ensures.feed c.pump.ensures.own had

pub returns-in-Close-clause-bytes : goal.returns-in-Close-clause-bytes
returns-in-Close-clause-bytes g c = λ bytes had.
    takes_none c.args.self.now.feed c.close.new.self.feed c.close.result bytes _ c.close.ensures.feed c.close.ensures.own had

pub returns-in-Reset-clause-bytes : goal.returns-in-Reset-clause-bytes
returns-in-Reset-clause-bytes g c = λ bytes had.
    takes_none c.args.self.now.feed c.reset.new.self.feed c.reset.result bytes _ c.reset.ensures.feed c.reset.ensures.own had
