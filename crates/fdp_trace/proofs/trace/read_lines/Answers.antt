use Rattle.std.proofs.Common.{◌≡◌, ◌+◌, ◌≤◌, ◌∷◌, ◌++◌, [], List, length, true, false, Ok, sym, ap, subst, ◌∙◌, arith, inr, vec_len, vec_capacity}
use Rattle.std.specs.Str.Lines.{lines}
use Rattle.std.proofs.lemmas.Result.{err_from_is_err_and}
use Rattle.fdp_base.specs.CommandKinds.{blocks_read}
use Rattle.fdp_base.specs.declared.command.Command.{Command}
use Rattle.fdp_trace.specs.Grammar.{SaysNext}
use Rattle.fdp_trace.specs.Reader.Trace.{Tally, is_too_much, command_more}
use Rattle.fdp_trace.proofs.Steps.{no_command, too_much, one_command, rest_done, fault_line, within_limits, same_limits}
use Rattle.fdp_trace.proofs.Wanting.{skips_behind, says_behind, wants_behind}
use Rattle.fdp_trace.proofs.trace.read_lines.Goals as goal

pub returns : goal.returns
returns c =
    let t : Tally = record { lines = c.loop-rest.number; commands = vec_len c.loop-rest.commands; blocks = c.loop-rest.blocks } in
    rest_done c.loop-rest.commands.items t c.loop-rest.rest.now _ (sym c.loop-rest-test.ensures) c.loop-rest.invariant.0

pub returns-in_err-found : goal.returns-in_err-found
returns-in_err-found c =
    let t : Tally = record { lines = c.loop-rest.number; commands = vec_len c.loop-rest.commands; blocks = c.loop-rest.blocks } in
    let p = err_from_is_err_and c.from_residual.result c.from_residual.ensures.1 in
    rw (p.1, p.2) (fault_line c.in_err-found.field-0.0 c.args.text.now c.loop-rest.commands t (lines c.loop-rest.rest.now) c.next_line.result.0.now (lines c.next_line.result.1.now) c.next_line.ensures.lines c.in_err-found.ensures c.loop-rest.invariant.0
    (λ command is. wants_behind c.args.text.now c.loop-rest.rest.now c.next_line.result.1.now c.next_line.result.0.now c.loop-rest.blocks c.loop-rest.commands.items command c.next_line.ensures.lines is c.loop-rest.invariant.4))

pub returns-then-is_too_much : goal.returns-then-is_too_much
returns-then-is_too_much c =
    let t : Tally = record { lines = c.loop-rest.number; commands = vec_len c.loop-rest.commands; blocks = c.loop-rest.blocks } in
    let much : is_too_much (command_more t c.in-Some.command) ≡ true = same_limits c.is_too_much.result true c.len.result (vec_len c.loop-rest.commands) c.loop-rest.blocks c.from-blocks.result (blocks_read c.in-Some.command) c.is_too_much.ensures c.len.ensures (c.from-blocks.ensures ∙ c.blocks_read.ensures) c.if-is_too_much.true in
    too_much c.loop-rest.commands.items t (lines c.loop-rest.rest.now) c.next_line.result.0.now (lines c.next_line.result.1.now) _ c.in-Some.command c.next_line.ensures.lines (c.in_ok-found.ensures ∙ ap Ok c.in-Some.is) much c.loop-rest.invariant.0

pub loop-rest-preserved-in_default : goal.loop-rest-preserved-in_default
loop-rest-preserved-in_default c =
    let t : Tally = record { lines = c.loop-rest.number; commands = vec_len c.loop-rest.commands; blocks = c.loop-rest.blocks } in
    let is = c.in_ok-found.ensures ∙ ap Ok c.in_default.is in (
      no_command c.loop-rest.commands.items t (lines c.loop-rest.rest.now) c.next_line.result.0.now (lines c.next_line.result.1.now) _ c.next_line.ensures.lines is c.loop-rest.invariant.0,
      omega (arith, c.next_line.ensures.shorter, c.loop-rest.invariant.1),
      c.loop-rest.invariant.2,
      c.loop-rest.invariant.3,
      skips_behind c.args.text.now c.loop-rest.rest.now c.next_line.result.1.now c.next_line.result.0.now c.loop-rest.blocks c.loop-rest.commands.items c.next_line.ensures.lines is c.loop-rest.invariant.4,
    )

pub returns-in_err-reserve : goal.returns-in_err-reserve
returns-in_err-reserve c =
    let p = err_from_is_err_and c.from_residual-in_err-reserve.result c.from_residual-in_err-reserve.ensures.1 in
    let is = c.in_ok-found.ensures ∙ ap Ok c.in-Some.is in
    let says = wants_behind c.args.text.now c.loop-rest.rest.now c.next_line.result.1.now c.next_line.result.0.now c.loop-rest.blocks c.loop-rest.commands.items c.in-Some.command c.next_line.ensures.lines is c.loop-rest.invariant.4 in
    let full : vec_capacity c.reserve.new.self ≤ vec_len c.reserve.new.self = omega (arith, c.in_err-reserve.ensures.full, c.in_err-reserve.ensures.err, c.in_err-reserve.ensures.len) in
    rw (p.1, p.2) (c.in-Some.command, subst (λ (cs : List Command). SaysNext c.args.text.now cs c.in-Some.command) (sym c.in_err-reserve.ensures.items) says, inr full)

pub loop-rest-preserved : goal.loop-rest-preserved
loop-rest-preserved c =
    let t : Tally = record { lines = c.loop-rest.number; commands = vec_len c.loop-rest.commands; blocks = c.loop-rest.blocks } in
    let is = c.in_ok-found.ensures ∙ ap Ok c.in-Some.is in
    let read = c.from-blocks.ensures ∙ c.blocks_read.ensures in
    let less : is_too_much (command_more t c.in-Some.command) ≡ false = same_limits c.is_too_much.result false c.len.result (vec_len c.loop-rest.commands) c.loop-rest.blocks c.from-blocks.result (blocks_read c.in-Some.command) c.is_too_much.ensures c.len.ensures read c.if-is_too_much.false in
    let bounds = within_limits (vec_len c.loop-rest.commands + 1) (c.loop-rest.blocks + blocks_read c.in-Some.command) less in
    let count : vec_len c.loop-rest.commands ≡ length c.loop-rest.commands.items = c.loop-rest.commands.ok.0 in
    let items = c.push_reserved.ensures.items ∙ ap (λ (cs : List Command). cs ++ c.in-Some.command ∷ []) c.in_ok-reserve.ensures.items in
    let len : vec_len c.push_reserved.new.self ≡ vec_len c.loop-rest.commands + 1 = omega (arith, c.push_reserved.ensures.len, c.in_ok-reserve.ensures.len) in
    rw (items, len, read) (
      one_command c.loop-rest.commands.items t (lines c.loop-rest.rest.now) c.next_line.result.0.now (lines c.next_line.result.1.now) _ c.in-Some.command c.next_line.ensures.lines is less c.loop-rest.invariant.0,
      omega (arith, c.next_line.ensures.shorter, c.loop-rest.invariant.1),
      bounds.0,
      bounds.1,
      says_behind c.args.text.now c.loop-rest.rest.now c.next_line.result.1.now c.next_line.result.0.now c.loop-rest.blocks c.loop-rest.commands.items c.in-Some.command c.next_line.ensures.lines is (omega (arith, count, bounds.0)) bounds.1 c.loop-rest.invariant.4,
    )
