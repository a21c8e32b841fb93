use Rattle.std.proofs.Common.{◌≡◌, ◌≤◌, ◌*◌, ℕ, List, length, drop, ap, ◌∙◌, sym, subst, arith, vec_capacity}
use Rattle.std.proofs.lemmas.List.{take_at}
use Rattle.std.proofs.lemmas.Nat.{mul-le}
use Rattle.gs_rtp.specs.Stream.{numbers_of}
use Rattle.gs_split.specs.Splitting.{KeepsShards}
use Rattle.gs_split.specs.Loaded.{loaded_outgoing}
use Rattle.gs_split.proofs.PlannedFrames.{limits_of, planned-most}
use Rattle.gs_split.proofs.Carried.{parity-of_some, percentage-of_parity}
use Rattle.gs_split.proofs.splitter.keep_shards.Goals as goal

pub lengthen-requires : goal.lengthen-requires
lengthen-requires c =
    let settings = c.args.settings.now in
    let s = numbers_of settings in
    let f = c.args.frame.now in
    let parity = parity-of_some s f c.requires.planned c.if-frame-eq0.false in
    let room : 1020 * settings.packet ≤ vec_capacity c.args.kept.now = c.requires.room (percentage-of_parity s f parity) in
    let few : f.datagrams * settings.packet ≤ 1020 * settings.packet =
    mul-le f.datagrams settings.packet 1020 settings.packet (planned-most s f (limits_of settings) c.requires.planned parity) (omega arith) in
    let same : f.datagrams * c.from.result ≡ f.datagrams * settings.packet = ap (λ (n : ℕ). f.datagrams * n) c.from.ensures in
    omega (arith, same, few, room)

pub returns-clause-shards : goal.returns-clause-shards
returns-clause-shards c = λ parity.
    let s = numbers_of c.args.settings.now in
    let out = loaded_outgoing c.args.frame.now c.args.unit.now in
    let written = c.write_front.new.kept in
    let rest = drop (length written) c.lengthen.new.bytes.items in
    subst (λ (l : List ℕ). KeepsShards s out l)
    (sym (take_at written rest c.lengthen.new.bytes.len (c.write_front.auto.kept ∙ c.deref_mut.ensures.len))) c.write_front.ensures
