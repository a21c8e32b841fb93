-- The command that the control channel holds, and the records that a peer stands for.
use Rattle.std.specs.Prelude.{ℕ, ◌≡◌, ◌<◌, ◌≤◌, ◌+◌, Bool, true, false, List, [], ◌∷◌, ◌++◌, length, Option, Some, None}
use Rattle.std.specs.Prelude.{slice_index_or}
use Rattle.gs_enet.specs.declared.control.Control.{Control}
use Rattle.gs_enet.specs.declared.control.ControlKind.{ControlKind}
use Rattle.gs_enet.specs.declared.control.ControlKind.TheVariants as kind
use Rattle.gs_enet.specs.declared.state.PeerState.{PeerState}
use Rattle.gs_enet.specs.declared.state.PeerState.TheVariants as state
use Rattle.gs_enet.specs.Record.{Content, Connect, VerifyConnect, Disconnect, Unacknowledged, control}

abbrev pub content_of : ControlKind → Content
content_of kind.Connect = Connect
content_of kind.VerifyConnect = VerifyConnect
content_of kind.Disconnect = Disconnect

abbrev pub unacknowledged_control : Control → Unacknowledged
unacknowledged_control k =
    record {
      order = record { content = content_of k.kind; channel = control; number = k.number };
      writes = k.writes;
      written = k.written;
      due = k.due;
    }

abbrev pub control_held : Option Control → List Unacknowledged
control_held None = []
control_held (Some k) = unacknowledged_control k ∷ []

-- whether the side may yet make its disconnect
abbrev pub is_disconnect : ControlKind → Bool
is_disconnect kind.Disconnect = true
is_disconnect kind.Connect = false
is_disconnect kind.VerifyConnect = false

abbrev pub holds_disconnect : Option Control → Bool
holds_disconnect None = false
holds_disconnect (Some k) = is_disconnect k.kind

abbrev pub has_left : PeerState → Option Control → Bool
has_left state.Shut held = true
has_left state.Connecting held = holds_disconnect held
has_left state.Accepting held = holds_disconnect held
has_left state.Connected held = holds_disconnect held
has_left state.Closing held = holds_disconnect held

abbrev pub is_closing : PeerState → Bool
is_closing state.Closing = true
is_closing state.Connecting = false
is_closing state.Accepting = false
is_closing state.Connected = false
is_closing state.Shut = false

abbrev pub is_accepting : PeerState → Bool
is_accepting state.Accepting = true
is_accepting state.Connecting = false
is_accepting state.Connected = false
is_accepting state.Closing = false
is_accepting state.Shut = false
