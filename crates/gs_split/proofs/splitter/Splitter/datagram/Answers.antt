use Rattle.std.proofs.Common.{◌≡◌, ◌+◌, ◌∙◌, ℕ, List, Some, length, take, sym, ap, subst, arith}
use Rattle.std.specs.List.{slice_get}
use Rattle.gs_rtp.specs.Stream.{numbers_of}
use Rattle.gs_frames.specs.Datagrams.{OutgoingFrame, frame_shards, frame_datagrams}
use Rattle.gs_split.specs.Splitting.{Splitting, IsLoaded, KeepsShards, has_parity_at}
use Rattle.gs_split.specs.Loaded.{loaded_outgoing}
use Rattle.gs_split.proofs.CountsAgree.{same-shards, same-datagrams, keeps-same}
use Rattle.gs_split.proofs.splitter.Splitter.datagram.Goals as goal

pub returns-clause-datagram : goal.returns-clause-datagram
returns-clause-datagram c =
    let s = numbers_of c.self.inside.settings in
    let f = c.self.inside.loaded in
    let unit = c.args.unit.now in
    subst (λ (v : Splitting). (sent : OutgoingFrame) → IsLoaded v sent → sent.unit ≡ unit
    → slice_get (frame_datagrams v.settings sent) c.args.k ≡ Some (take (16 + c.from.result) c.write_datagram.new.out))
    c.self.view_is
    (λ sent loaded unit_is.
    let out = loaded_outgoing f unit in
    let same : frame_shards s sent ≡ frame_shards s out =
    same-shards s sent out (omega (arith, loaded.count_agrees)) (sym loaded.frame_is) (sym loaded.kind_is) (sym loaded.time_is) unit_is in
    let length_is : f.unit_length ≡ length sent.unit = loaded.unit_length_is in
    ap (λ (l : List (List ℕ)). slice_get l c.args.k) (same-datagrams s sent out same)
    ∙ c.write_datagram.ensures.datagram (λ parity.
    subst (λ (l : List ℕ). KeepsShards s out l) (sym c.deref.ensures.value)
    (keeps-same s sent out c.self.inside.kept.items same (loaded.keeps (ap (λ (n : ℕ). has_parity_at s n) (sym length_is) ∙ parity))))
    ∙ ap (λ (n : ℕ). Some (take (16 + n) c.write_datagram.new.out)) (sym c.from.ensures))
