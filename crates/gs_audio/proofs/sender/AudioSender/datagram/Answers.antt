use Rattle.std.proofs.Common.{◌≡◌, ◌≤◌, ◌+◌, ◌-◌, ◌*◌, ◌++◌, ℕ, List, length, take, drop, Some, sym, ap, subst, ◌∙◌, arith}
use Rattle.std.proofs.Math.Seq.{take-append_seam, drop-append-add}
use Rattle.std.proofs.lemmas.List.{length-append, drop-drop}
use Rattle.std.proofs.lemmas.Slice.{take-put_mid, drop-put_mid}
use Rattle.gs_rtp.specs.Stream.{numbers_of}
use Rattle.gs_rtp.specs.declared.audio.AudioHead.{AudioHead}
use Rattle.gs_rtp.specs.Audio.{audio_header}
use Rattle.gs_audio.specs.Sending.{Sending, ready_head}
use Rattle.gs_audio.proofs.Ready.{ready-is}
use Rattle.gs_audio.proofs.sender.AudioSender.datagram.Goals as goal

-- a header in front of what was there
room_behind : (header w out : List ℕ) (h : ℕ) → h ≡ length header → w ≡ header ++ drop h out → h ≤ length w
room_behind header w out h count is = omega (arith, ap length is, length-append header (drop h out))

front_is : (header w out : List ℕ) (h : ℕ) → h ≡ length header → w ≡ header ++ drop h out → take h w ≡ header
front_is header w out h count is =
    ap (take h) is ∙ ap (λ (n : ℕ). take n (header ++ drop h out)) count ∙ take-append_seam header (drop h out)

behind_is : (header w out : List ℕ) (h m : ℕ) → h ≡ length header → w ≡ header ++ drop h out → drop (h + m) w ≡ drop (h + m) out
behind_is header w out h m count is =
    ap (drop (h + m)) is ∙ ap (λ (n : ℕ). drop (n + m) (header ++ drop h out)) count ∙ drop-append-add header (drop h out) m
    ∙ drop-drop m h out

pub returns-clause-datagram : goal.returns-clause-datagram
returns-clause-datagram c = λ units has.
    let s = c.args.self.now in
    let k = c.args.k in
    let h = c.write_audio-header.result in
    let w = c.write_audio-header.new.out in
    let shard = c.shard-shard.result.now in
    let header = audio_header (numbers_of c.self.inside.settings) c.head.result in
    let count : h ≡ length header = c.write_audio-header.ensures.count in
    let bytes : w ≡ header ++ drop h c.args.out.now = c.write_audio-header.ensures.bytes in
    let room = subst (λ (v : Sending). length v.shards ≡ 6 * v.settings.audio) c.self.view_is
    (sym c.self.inside.shards.ok.0 ∙ c.self.invariant.size) in
    let new = c.copy_from_slice.new.self in
    let same : new ≡ shard = c.copy_from_slice.ensures.after in
    let cut = take-put_mid h ((h + length shard) - h) w new (h + length shard) (ap (λ (l : List ℕ). h + length l) (sym same))
    (room_behind header w c.args.out.now h count bytes) in
    let written = cut ∙ ap (λ (l : List ℕ). l ++ new) (front_is header w c.args.out.now h count bytes) in
    ready-is s units k has c.requires.number room
    ∙ ap (λ (l : List ℕ). Some (audio_header s.settings (ready_head s k) ++ l)) (sym c.shard-shard.ensures.is ∙ sym same)
    ∙ ap (λ (g : AudioHead). Some (audio_header s.settings g ++ new)) (sym c.head.ensures.is)
    ∙ ap (λ (v : Sending). Some (audio_header v.settings c.head.result ++ new)) (sym c.self.view_is)
    ∙ ap (λ (l : List ℕ). Some l) (sym written)

pub returns-clause-rest : goal.returns-clause-rest
returns-clause-rest c =
    let h = c.write_audio-header.result in
    let w = c.write_audio-header.new.out in
    let shard = c.shard-shard.result.now in
    let header = audio_header (numbers_of c.self.inside.settings) c.head.result in
    let count : h ≡ length header = c.write_audio-header.ensures.count in
    let bytes : w ≡ header ++ drop h c.args.out.now = c.write_audio-header.ensures.bytes in
    let long : length c.copy_from_slice.new.self ≡ (h + length shard) - h = omega (arith, ap length c.copy_from_slice.ensures.after) in
    drop-put_mid h ((h + length shard) - h) w c.copy_from_slice.new.self (h + length shard) (omega arith)
    (room_behind header w c.args.out.now h count bytes) long
    ∙ behind_is header w c.args.out.now h (length shard) count bytes
