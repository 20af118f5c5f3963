-- Commands of frames can be served.
use Rattle.std.proofs.Common.{ℕ, List, [], ◌∷◌}
use Rattle.std.specs.List.{All, AllZip}
use Rattle.std.proofs.lemmas.List.Elements.{All-cons, All-nil}
use Rattle.fdp_base.specs.declared.command.Command.{Command}
use Rattle.fdp_base.specs.declared.command.Command.TheVariants as commands
use Rattle.fdp_base.specs.declared.config.DriveConfig.{DriveConfig}
use Rattle.fdp_base.specs.declared.payload.Payload.{Payload}
use Rattle.fdp_base.specs.declared.payload.Payload.TheVariants as payloads
use Rattle.fdp_base.specs.CommandKinds.{IsPayloadOf, IsWellFormed}
use Rattle.fdp_binary.specs.Frames.{IsFrame}
use Rattle.fdp_binary.specs.Carrying.{IsCarried, IsCarriedPayload}
use Rattle.fdp_binary.specs.Streams.{IsStream}
use Rattle.fdp_binary.proofs.Refused.{said-carried}

payload-formed : (c : DriveConfig) (count : ℕ) (payload : Payload) → IsCarriedPayload c.block count payload → IsPayloadOf c count payload
payload-formed c count (payloads.Pattern seed) h = tt
payload-formed c count (payloads.Bytes bytes) h = h.0

-- what is carried can be served
carried-formed : (c : DriveConfig) (command : Command) → IsCarried c.block command → IsWellFormed c command
carried-formed c (commands.Write w) h = (h.0, payload-formed c w.count w.payload h.2)
carried-formed c (commands.Read r) h = h
carried-formed c (commands.Zero z) h = h
carried-formed c (commands.Dealloc d) h = h
carried-formed c (commands.Flush f) h = tt
carried-formed c (commands.Delete d) h = tt
carried-formed c (commands.Status s) h = h
carried-formed c (commands.Update u) h = h
carried-formed c (commands.Log l) h = h.0
carried-formed c (commands.SetFdp s) h = tt
carried-formed c (commands.GetFdp g) h = tt
carried-formed c (commands.SetEvents s) h = h
carried-formed c (commands.Create x) h = absurd h
carried-formed c (commands.Other o) h = tt

pub well-formed : (c : DriveConfig) (bytes : List ℕ) (command : Command) → IsFrame c.block bytes command → IsWellFormed c command
well-formed c bytes command f = carried-formed c command (said-carried c.block f.front.admin f.front.entry f.body command f.says)

frames-formed : (c : DriveConfig) (frames : List (List ℕ)) (commands : List Command) → AllZip (IsFrame c.block) frames commands → All (IsWellFormed c) commands
frames-formed c [] [] each = All-nil (IsWellFormed c)
frames-formed c [] (x ∷ xs) each = absurd each
frames-formed c (f ∷ fs) [] each = absurd each
frames-formed c (f ∷ fs) (x ∷ xs) each = All-cons (IsWellFormed c) x xs (well-formed c f x each.0) (frames-formed c fs xs each.1)

pub stream-formed : (c : DriveConfig) (bytes : List ℕ) (commands : List Command) → IsStream c.block bytes commands → All (IsWellFormed c) commands
stream-formed c bytes commands stream = frames-formed c stream.frames commands stream.each
