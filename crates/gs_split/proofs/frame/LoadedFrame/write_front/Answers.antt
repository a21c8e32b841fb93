use Rattle.std.proofs.Common.{◌≡◌, ◌*◌, ℕ, length, take, drop, sym, ap, ◌∙◌, arith}
use Rattle.std.proofs.lemmas.List.{length-take-le, take_at}
use Rattle.gs_rtp.specs.Stream.{numbers_of}
use Rattle.gs_frames.specs.Datagrams.{frame_shards}
use Rattle.gs_split.specs.Loaded.{loaded_outgoing}
use Rattle.gs_split.proofs.WrittenFrames.{frame-length}
use Rattle.gs_split.proofs.frame.LoadedFrame.write_front.Goals as goal

pub returns : goal.returns
returns c =
    let settings = c.args.settings.now in
    let s = numbers_of settings in
    let f = c.args.self.now in
    let out = loaded_outgoing f c.args.unit.now in
    let kept = c.args.kept.now in
    let size = f.datagrams * c.from.result in
    let same : size ≡ f.datagrams * settings.packet = ap (λ (n : ℕ). f.datagrams * n) c.from.ensures in
    let count : f.datagrams * settings.packet ≡ length (frame_shards s out) * settings.packet =
    ap (λ (n : ℕ). n * settings.packet) (sym (frame-length s f out c.requires.planned c.requires.unit)) in
    let long : length (take size kept) ≡ size = length-take-le size kept (omega (arith, same, c.requires.room)) in
    take_at c.write_shards.new.out (drop size kept) (length (frame_shards s out) * settings.packet) (c.write_shards.auto.out ∙ long ∙ same ∙ count)
    ∙ c.write_shards.ensures
