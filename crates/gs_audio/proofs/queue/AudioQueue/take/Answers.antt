use Rattle.std.proofs.Common.{◌≡◌, ℕ, List, length, take, drop, None, ◌-◌, sym, ap, subst, ◌∙◌}
use Rattle.std.proofs.lemmas.List.{take_rest}
use Rattle.gs_rtp.specs.Stream.{StreamSettings}
use Rattle.gs_rtp.specs.Audio.{audio_head}
use Rattle.gs_audio.specs.Received.{AudioShard, carried_audio, taken_audio}
use Rattle.gs_audio.specs.Steps.{session_head, shard_of_number, TakesShard}
use Rattle.gs_audio.proofs.Taken.{take-none, take-some}
use Rattle.gs_audio.proofs.queue.AudioQueue.take.Goals as goal

pub returns-in_default-clause-takes : goal.returns-in_default-clause-takes
returns-in_default-clause-takes c = λ s came stands.
    let bytes = c.args.datagram.now in
    let q = c.args.self.now in
    let none : c.head_of.result ≡ None = c.in_default.is in
    take-none q s came bytes stands
    (ap (λ (t : StreamSettings). session_head t.ssrc (audio_head t bytes)) (sym stands.settings_are) ∙ sym c.head_of.ensures.is ∙ none)

pub returns-clause-takes : goal.returns-clause-takes
returns-clause-takes c = λ s came stands.
    let bytes = c.args.datagram.now in
    let q = c.args.self.now in
    let head = c.in-Some.head in
    let cut : ℕ → List ℕ = λ m. drop (length bytes - m) bytes in
    let whole = take (length bytes - (length bytes - c.from.result)) (drop (length bytes - c.from.result) bytes) in
    let shard_is : shard_of_number head.block c.number_of.result whole ≡ carried_audio s bytes head =
    ap (λ (l : List ℕ). shard_of_number head.block c.number_of.result l)
    (take_rest bytes (length bytes - c.from.result) ∙ ap cut c.from.ensures)
    ∙ ap (λ (n : ℕ). shard_of_number head.block n (cut q.settings.audio)) c.number_of.ensures
    ∙ ap (λ (t : StreamSettings). carried_audio t bytes head) stands.settings_are in
    let Takes : AudioShard → Type 0 = λ r. TakesShard c.take_shard.new.self c.take_shard.result r s (taken_audio s came) in
    take-some c.take_shard.new.self c.take_shard.result s came bytes head
    (ap (λ (t : StreamSettings). session_head t.ssrc (audio_head t bytes)) (sym stands.settings_are) ∙ sym c.head_of.ensures.is ∙ c.in-Some.is)
    (subst Takes shard_is (c.take_shard.ensures.takes s (taken_audio s came) stands))
