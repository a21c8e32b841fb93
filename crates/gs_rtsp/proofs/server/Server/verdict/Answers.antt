use Rattle.std.proofs.Common.{refl}
use Rattle.gs_rtsp.proofs.Replies.{verdict_by}
use Rattle.gs_rtsp.proofs.server.Server.verdict.Goals as goal

pub returns-in-Options-clause-verdict : goal.returns-in-Options-clause-verdict
returns-in-Options-clause-verdict c = λ offer base earlier s. verdict_by offer _ _ _ _ c.in-Options.is (record { answer_is = refl; settings = tt })

pub returns-in-Describe-clause-verdict : goal.returns-in-Describe-clause-verdict
returns-in-Describe-clause-verdict c = λ offer base earlier s. verdict_by offer _ _ _ _ c.in-Describe.is (record { answer_is = refl; settings = tt })

pub returns-in-Setup-clause-verdict : goal.returns-in-Setup-clause-verdict
returns-in-Setup-clause-verdict c = λ offer base earlier s. verdict_by offer _ _ _ _ c.in-Setup.is (c.set_up_verdict.ensures.verdict offer base earlier s)

pub returns-in-Announce-clause-verdict : goal.returns-in-Announce-clause-verdict
returns-in-Announce-clause-verdict c = λ offer base earlier s. verdict_by offer _ _ _ _ c.in-Announce.is
    (c.announce_verdict.ensures.verdict offer base earlier s)

pub returns-in-Play-clause-verdict : goal.returns-in-Play-clause-verdict
returns-in-Play-clause-verdict c = λ offer base earlier s. verdict_by offer _ _ _ _ c.in-Play.is (c.play_verdict.ensures.verdict offer base earlier s)
