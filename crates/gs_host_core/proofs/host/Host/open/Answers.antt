use Rattle.std.proofs.Common.{◌≡◌, ◌≤◌, ◌+◌, ◌%◌, ◌^◌, ℕ, sym, ap, subst, ◌∙◌}
use Rattle.gs_rtp.specs.Limits.{most_packet}
use Rattle.gs_rtp.specs.Stream.{StreamSettings, numbers_of}
use Rattle.gs_split.specs.Splitting.{next_count}
use Rattle.gs_host_core.specs.Hosting.{Hosting}
use Rattle.gs_host_core.proofs.Opened.{sound-fresh, stands-fresh}
use Rattle.gs_host_core.proofs.host.Host.open.Goals as goal

pub invariant_of-result : goal.invariant_of-result
invariant_of-result c =
    let splitter = c.in_ok-new.field-0 in
    let audio = c.in_ok-new-2.field-0 in
    let settings : splitter.settings ≡ numbers_of c.args.settings.now = c.in_ok-new.ensures.settings_are in
    sound-fresh splitter.settings c.new.result.history audio c.new.ensures
    (subst (λ (s : StreamSettings). s.packet ≤ most_packet) (sym settings) c.args.settings.now.packet_greatest)
    (c.in_ok-new-2.ensures.settings ∙ sym settings) c.in_ok-new-2.ensures.none

pub returns-clause-stands : goal.returns-clause-stands
returns-clause-stands c = λ ticks.
    let splitter = c.in_ok-new.field-0 in
    let audio = c.in_ok-new-2.field-0 in
    let host : Hosting =
    record { settings = splitter.settings; history = c.new.result.history; count = next_count splitter; audio = audio } in
    let count : next_count splitter ≡ 0 =
    ap (λ (n : ℕ). (n + splitter.datagrams) % 2 ^ 32) c.in_ok-new.ensures.count ∙ ap (λ (n : ℕ). (0 + n) % 2 ^ 32) c.in_ok-new.ensures.datagrams in
    stands-fresh host ticks c.new.ensures count c.in_ok-new-2.ensures.pushed
