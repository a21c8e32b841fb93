use Rattle.std.proofs.Common.{◌≡◌, ℕ, List, ◌++◌, codes, ap, ◌∙◌, refl}
use Rattle.std.specs.Prelude.{decimal}
use Rattle.gs_sdp.specs.declared.attributes.SettingName.TheVariants.{Duration}
use Rattle.gs_sdp.specs.Lines.{line_text}
use Rattle.gs_sdp.specs.Table.{setting_name}
use Rattle.gs_rtsp.specs.Reply.{description}
use Rattle.gs_rtsp.proofs.response.description.Goals as goal

pub returns : goal.returns
unfolding description
returns c =
    let first : List ℕ = line_text (setting_name Duration) (decimal c.args.offer.now.duration) in
    let second : List ℕ = line_text (codes "x-gs-audio.length") (decimal c.args.offer.now.audio) in
    let one : c.push_line.new.out.items ≡ first = rw (c.in_ok-push_line.ensures.ok, c.new-out.ensures.items, c.attribute.ensures, c.from.ensures) refl in
    let two : c.push_line-2.new.out.items ≡ c.push_line.new.out.items ++ second = rw (c.in_ok-push_line-2.ensures.ok, c.from-2.ensures) refl in
    c.from_vec.ensures ∙ two ∙ ap (λ (s : List ℕ). s ++ second) one
