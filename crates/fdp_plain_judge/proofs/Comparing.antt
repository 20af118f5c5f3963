-- Commands and names of blocks that are compared: the derived test says whether they are the same.
use Rattle.std.specs.Bool.{Decides}
use Rattle.std.specs.Cmp.{booleans_Decides}
use Rattle.std.specs.Cmp.Lexicographic.{pointwise}
use Rattle.std.specs.Prelude.{◌&&◌}
use Rattle.std.proofs.Common.{◌≡◌, Bool, List, true, false, refl, ap, arith}
use Rattle.std.proofs.lemmas.Bool.{false≢true}
use Rattle.std.proofs.lemmas.Bool.Decides.{Decides-eqb, nat_tests}
use Rattle.std.proofs.lemmas.Slice.Eq.{bytes_eq-Decides, slice_eq-Decides}
use Rattle.fdp_base.specs.declared.command.Command.{Command}
use Rattle.fdp_base.specs.declared.command.Command.TheVariants as commands
use Rattle.fdp_base.specs.declared.command.Range.{Range}
use Rattle.fdp_base.specs.declared.command.Write.{Write}
use Rattle.fdp_base.specs.contracts.command.WritePartialEq.TheImpl as eq_write
use Rattle.fdp_base.specs.declared.command.Read.{Read}
use Rattle.fdp_base.specs.contracts.command.ReadPartialEq.TheImpl as eq_read
use Rattle.fdp_base.specs.declared.command.Zero.{Zero}
use Rattle.fdp_base.specs.contracts.command.ZeroPartialEq.TheImpl as eq_zero
use Rattle.fdp_base.specs.declared.command.Dealloc.{Dealloc}
use Rattle.fdp_base.specs.contracts.command.DeallocPartialEq.TheImpl as eq_dealloc
use Rattle.fdp_base.specs.declared.command.Flush.{Flush}
use Rattle.fdp_base.specs.contracts.command.FlushPartialEq.TheImpl as eq_flush
use Rattle.fdp_base.specs.declared.command.Delete.{Delete}
use Rattle.fdp_base.specs.contracts.command.DeletePartialEq.TheImpl as eq_delete
use Rattle.fdp_base.specs.declared.command.HandleStatus.{HandleStatus}
use Rattle.fdp_base.specs.contracts.command.HandleStatusPartialEq.TheImpl as eq_handle_status
use Rattle.fdp_base.specs.declared.command.HandleUpdate.{HandleUpdate}
use Rattle.fdp_base.specs.contracts.command.HandleUpdatePartialEq.TheImpl as eq_handle_update
use Rattle.fdp_base.specs.declared.command.GetLog.{GetLog}
use Rattle.fdp_base.specs.contracts.command.GetLogPartialEq.TheImpl as eq_get_log
use Rattle.fdp_base.specs.declared.command.SetFdp.{SetFdp}
use Rattle.fdp_base.specs.contracts.command.SetFdpPartialEq.TheImpl as eq_set_fdp
use Rattle.fdp_base.specs.declared.command.GetFdp.{GetFdp}
use Rattle.fdp_base.specs.contracts.command.GetFdpPartialEq.TheImpl as eq_get_fdp
use Rattle.fdp_base.specs.declared.command.SetEvents.{SetEvents}
use Rattle.fdp_base.specs.contracts.command.SetEventsPartialEq.TheImpl as eq_set_events
use Rattle.fdp_base.specs.declared.command.Create.{Create}
use Rattle.fdp_base.specs.contracts.command.CreatePartialEq.TheImpl as eq_create
use Rattle.fdp_base.specs.declared.command.Other.{Other}
use Rattle.fdp_base.specs.contracts.command.OtherPartialEq.TheImpl as eq_other
use Rattle.fdp_base.specs.declared.entry.BlockName.{BlockName}
use Rattle.fdp_base.specs.declared.payload.Payload.{Payload}
use Rattle.fdp_base.specs.declared.payload.Payload.TheVariants as payloads
use Rattle.fdp_base.specs.contracts.command.CommandPartialEq.TheImpl as command
use Rattle.fdp_base.specs.contracts.command.RangePartialEq.TheImpl as range
use Rattle.fdp_base.specs.contracts.entry.BlockNamePartialEq.TheImpl as block_name
use Rattle.fdp_base.specs.contracts.payload.PayloadPartialEq.TheImpl as payload

-- two tests that decide two facts decide both
both : {P Q : Type 0} (a b : Bool) → Decides a P → Decides b Q → Decides (a && b) (P × Q)
both true true p q = (λ e. (p.0 refl, q.0 refl), λ e. refl)
both true false p q = (λ e. absurd (false≢true e), λ e. q.1 e.1)
both false b p q = (λ e. absurd (false≢true e), λ e. p.1 e.0)

same_range : (a b : Range) → Decides (range.ghosts.eq a b) (a ≡ b)
same_range a b =
    let each = both _ _ (Decides-eqb a.slba b.slba) (Decides-eqb a.length b.length) in
    (λ e. let fields = each.0 e in (λ i. record { slba = fields.0 i; length = fields.1 i }), λ e. each.1 (cc, cc))

same_ranges : (xs ys : List Range) → Decides (pointwise range.ghosts.eq xs ys) (xs ≡ ys)
same_ranges xs ys = slice_eq-Decides same_range xs ys (pointwise range.ghosts.eq xs ys) refl

pub same_block_name : (a b : BlockName) → Decides (block_name.ghosts.eq a b) (a ≡ b)
same_block_name a b =
    let each = both _ _ (Decides-eqb a.nsid b.nsid) (Decides-eqb a.lba b.lba) in
    (λ e. let fields = each.0 e in (λ i. record { nsid = fields.0 i; lba = fields.1 i }), λ e. each.1 (cc, cc))

same_payload : (a b : Payload) → Decides (payload.ghosts.eq a b) (a ≡ b)
same_payload (payloads.Pattern a) (payloads.Pattern b) = grind (arith, nat_tests)
same_payload (payloads.Bytes a) (payloads.Bytes b) =
    let each = bytes_eq-Decides a b in
    (λ e. let fields = each.0 e in cc, λ e. each.1 (cc))
same_payload _ _ = (λ e. absurd (false≢true e), λ e. cc)

same_write : (a b : Write) → Decides (eq_write.ghosts.eq a b) (a ≡ b)
same_write a b =
    let each = both _ _ (Decides-eqb a.nsid b.nsid) (both _ _ (Decides-eqb a.slba b.slba) (both _ _ (Decides-eqb a.count b.count) (both _ _ (Decides-eqb a.dtype b.dtype) (both _ _ (Decides-eqb a.dspec b.dspec) (same_payload a.payload b.payload))))) in
    (λ e. let fields = each.0 e in (λ i. record { nsid = fields.0 i; slba = fields.1.0 i; count = fields.1.1.0 i; dtype = fields.1.1.1.0 i; dspec = fields.1.1.1.1.0 i; payload = fields.1.1.1.1.1 i }), λ e. each.1 (cc, (cc, (cc, (cc, (cc, cc))))))

same_read : (a b : Read) → Decides (eq_read.ghosts.eq a b) (a ≡ b)
same_read a b =
    let each = both _ _ (Decides-eqb a.nsid b.nsid) (both _ _ (Decides-eqb a.slba b.slba) (Decides-eqb a.count b.count)) in
    (λ e. let fields = each.0 e in (λ i. record { nsid = fields.0 i; slba = fields.1.0 i; count = fields.1.1 i }), λ e. each.1 (cc, (cc, cc)))

same_zero : (a b : Zero) → Decides (eq_zero.ghosts.eq a b) (a ≡ b)
same_zero a b =
    let each = both _ _ (Decides-eqb a.nsid b.nsid) (both _ _ (Decides-eqb a.slba b.slba) (Decides-eqb a.count b.count)) in
    (λ e. let fields = each.0 e in (λ i. record { nsid = fields.0 i; slba = fields.1.0 i; count = fields.1.1 i }), λ e. each.1 (cc, (cc, cc)))

same_dealloc : (a b : Dealloc) → Decides (eq_dealloc.ghosts.eq a b) (a ≡ b)
same_dealloc a b =
    let each = both _ _ (Decides-eqb a.nsid b.nsid) (both _ _ (booleans_Decides a.deallocate b.deallocate) (same_ranges a.ranges b.ranges)) in
    (λ e. let fields = each.0 e in (λ i. record { nsid = fields.0 i; deallocate = fields.1.0 i; ranges = fields.1.1 i }), λ e. each.1 (cc, (cc, cc)))

same_flush : (a b : Flush) → Decides (eq_flush.ghosts.eq a b) (a ≡ b)
same_flush a b =
    let each = Decides-eqb a.nsid b.nsid in
    (λ e. let field = each.0 e in (λ i. record { nsid = field i }), λ e. each.1 (cc))

same_delete : (a b : Delete) → Decides (eq_delete.ghosts.eq a b) (a ≡ b)
same_delete a b =
    let each = Decides-eqb a.nsid b.nsid in
    (λ e. let field = each.0 e in (λ i. record { nsid = field i }), λ e. each.1 (cc))

same_handle_status : (a b : HandleStatus) → Decides (eq_handle_status.ghosts.eq a b) (a ≡ b)
same_handle_status a b =
    let each = both _ _ (Decides-eqb a.nsid b.nsid) (both _ _ (Decides-eqb a.mo b.mo) (Decides-eqb a.dwords b.dwords)) in
    (λ e. let fields = each.0 e in (λ i. record { nsid = fields.0 i; mo = fields.1.0 i; dwords = fields.1.1 i }), λ e. each.1 (cc, (cc, cc)))

same_handle_update : (a b : HandleUpdate) → Decides (eq_handle_update.ghosts.eq a b) (a ≡ b)
same_handle_update a b =
    let each = both _ _ (Decides-eqb a.nsid b.nsid) (both _ _ (Decides-eqb a.mo b.mo) (bytes_eq-Decides a.pids b.pids)) in
    (λ e. let fields = each.0 e in (λ i. record { nsid = fields.0 i; mo = fields.1.0 i; pids = fields.1.1 i }), λ e. each.1 (cc, (cc, cc)))

same_get_log : (a b : GetLog) → Decides (eq_get_log.ghosts.eq a b) (a ≡ b)
same_get_log a b =
    let each = both _ _ (Decides-eqb a.lid b.lid) (both _ _ (Decides-eqb a.lsp b.lsp) (both _ _ (Decides-eqb a.group b.group) (both _ _ (Decides-eqb a.offset b.offset) (Decides-eqb a.dwords b.dwords)))) in
    (λ e. let fields = each.0 e in (λ i. record { lid = fields.0 i; lsp = fields.1.0 i; group = fields.1.1.0 i; offset = fields.1.1.1.0 i; dwords = fields.1.1.1.1 i }), λ e. each.1 (cc, (cc, (cc, (cc, cc)))))

same_set_fdp : (a b : SetFdp) → Decides (eq_set_fdp.ghosts.eq a b) (a ≡ b)
same_set_fdp a b =
    let each = both _ _ (Decides-eqb a.group b.group) (both _ _ (booleans_Decides a.enable b.enable) (Decides-eqb a.index b.index)) in
    (λ e. let fields = each.0 e in (λ i. record { group = fields.0 i; enable = fields.1.0 i; index = fields.1.1 i }), λ e. each.1 (cc, (cc, cc)))

same_get_fdp : (a b : GetFdp) → Decides (eq_get_fdp.ghosts.eq a b) (a ≡ b)
same_get_fdp a b =
    let each = Decides-eqb a.group b.group in
    (λ e. let field = each.0 e in (λ i. record { group = field i }), λ e. each.1 (cc))

same_set_events : (a b : SetEvents) → Decides (eq_set_events.ghosts.eq a b) (a ≡ b)
same_set_events a b =
    let each = both _ _ (Decides-eqb a.nsid b.nsid) (both _ _ (Decides-eqb a.handle b.handle) (both _ _ (booleans_Decides a.enable b.enable) (bytes_eq-Decides a.types b.types))) in
    (λ e. let fields = each.0 e in (λ i. record { nsid = fields.0 i; handle = fields.1.0 i; enable = fields.1.1.0 i; types = fields.1.1.1 i }), λ e. each.1 (cc, (cc, (cc, cc))))

same_create : (a b : Create) → Decides (eq_create.ghosts.eq a b) (a ≡ b)
same_create a b =
    let each = both _ _ (Decides-eqb a.size b.size) (both _ _ (booleans_Decides a.given b.given) (bytes_eq-Decides a.list b.list)) in
    (λ e. let fields = each.0 e in (λ i. record { size = fields.0 i; given = fields.1.0 i; list = fields.1.1 i }), λ e. each.1 (cc, (cc, cc)))

same_other : (a b : Other) → Decides (eq_other.ghosts.eq a b) (a ≡ b)
same_other a b =
    let each = both _ _ (booleans_Decides a.admin b.admin) (both _ _ (Decides-eqb a.opcode b.opcode) (both _ _ (Decides-eqb a.flags b.flags) (Decides-eqb a.feature b.feature))) in
    (λ e. let fields = each.0 e in (λ i. record { admin = fields.0 i; opcode = fields.1.0 i; flags = fields.1.1.0 i; feature = fields.1.1.1 i }), λ e. each.1 (cc, (cc, (cc, cc))))

pub same_command : (a b : Command) → Decides (command.ghosts.eq a b) (a ≡ b)
same_command (commands.Write a) (commands.Write b) = let each = same_write a b in (λ e. ap commands.Write (each.0 e), λ e. each.1 (cc))
same_command (commands.Read a) (commands.Read b) = let each = same_read a b in (λ e. ap commands.Read (each.0 e), λ e. each.1 (cc))
same_command (commands.Zero a) (commands.Zero b) = let each = same_zero a b in (λ e. ap commands.Zero (each.0 e), λ e. each.1 (cc))
same_command (commands.Dealloc a) (commands.Dealloc b) = let each = same_dealloc a b in (λ e. ap commands.Dealloc (each.0 e), λ e. each.1 (cc))
same_command (commands.Flush a) (commands.Flush b) = let each = same_flush a b in (λ e. ap commands.Flush (each.0 e), λ e. each.1 (cc))
same_command (commands.Delete a) (commands.Delete b) = let each = same_delete a b in (λ e. ap commands.Delete (each.0 e), λ e. each.1 (cc))
same_command (commands.Status a) (commands.Status b) = let each = same_handle_status a b in (λ e. ap commands.Status (each.0 e), λ e. each.1 (cc))
same_command (commands.Update a) (commands.Update b) = let each = same_handle_update a b in (λ e. ap commands.Update (each.0 e), λ e. each.1 (cc))
same_command (commands.Log a) (commands.Log b) = let each = same_get_log a b in (λ e. ap commands.Log (each.0 e), λ e. each.1 (cc))
same_command (commands.SetFdp a) (commands.SetFdp b) = let each = same_set_fdp a b in (λ e. ap commands.SetFdp (each.0 e), λ e. each.1 (cc))
same_command (commands.GetFdp a) (commands.GetFdp b) = let each = same_get_fdp a b in (λ e. ap commands.GetFdp (each.0 e), λ e. each.1 (cc))
same_command (commands.SetEvents a) (commands.SetEvents b) = let each = same_set_events a b in (λ e. ap commands.SetEvents (each.0 e), λ e. each.1 (cc))
same_command (commands.Create a) (commands.Create b) = let each = same_create a b in (λ e. ap commands.Create (each.0 e), λ e. each.1 (cc))
same_command (commands.Other a) (commands.Other b) = let each = same_other a b in (λ e. ap commands.Other (each.0 e), λ e. each.1 (cc))
same_command _ _ = (λ e. absurd (false≢true e), λ e. cc)
