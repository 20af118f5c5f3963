use Rattle.std.proofs.Common.{◌≡◌, ◌+◌, ap, sym, subst, ◌∙◌, rules}
use Rattle.fdp_make.specs.Load.{CanBeServed, address, command_at, following, make_command, make_trace, number_at}
use Rattle.fdp_make.proofs.Forms.{trace-served}
use Rattle.fdp_make.proofs.Listing.{IsListing, listing_end, listing_next, number_next}
use Rattle.fdp_make.proofs.load.trace_of.Goals as goal

pub loop-k-init : goal.loop-k-init
unfolding number_at
loop-k-init c = record { row = c.from-x.ensures; done = record { whole = search rules } }

pub loop-k-preserved : goal.loop-k-preserved
loop-k-preserved c =
    let x : c.following-x.result ≡ number_at c.args.trace (c.loop-k.k + 1) = c.following-x.ensures ∙ ap following c.loop-k.invariant.row ∙ number_next c.args.trace c.loop-k.k in
    let made : c.command_at.result ≡ make_command c.args.trace c.loop-k.k =
    c.command_at.ensures ∙ ap (command_at c.args.trace c.loop-k.k) (c.address.ensures ∙ ap (address c.args.trace) x) in
    record {
      row = x;
      done = subst (IsListing (make_command c.args.trace) c.args.number (c.loop-k.k + 1)) (sym c.in_ok-push.ensures.items)
          (listing_next (make_command c.args.trace) c.args.number c.loop-k.k c.loop-k.commands.items c.command_at.result c.loop-k-test.true made c.loop-k.invariant.done);
    }

pub returns : goal.returns
unfolding make_trace
returns c =
    let value = listing_end (make_command c.args.trace) c.args.number c.loop-k.k c.loop-k.commands.items c.loop-k-test.false c.loop-k.invariant.done in
    record { value = value; servable = subst CanBeServed (sym value) (trace-served c.args.number c.args.trace c.requires.number) }
