use Rattle.std.proofs.Common.{◌≡◌, ◌<◌, ◌∙◌, arith, true, false, List, Some, ap, refl, subst, sym, length, ℕ, Bool, rules}
use Rattle.std.specs.Prelude.{slice_get}
use Rattle.std.specs.List.{concat}
use Rattle.std.proofs.lemmas.List.{length-append, take_all}
use Rattle.fdp_flash.specs.declared.cell.Cell.{Cell}
use Rattle.fdp_flash.specs.Failing.{FailsLast}
use Rattle.fdp_flash.proofs.Failing.{failed_behind}
use Rattle.fdp_flash.proofs.OnlyReads.{after_reads, before_reads, no_read, reads_fewer, reads_joined}
use Rattle.fdp_checkpoint.specs.Ends.{EndsFetch}
use Rattle.fdp_checkpoint.proofs.Collecting.{one_block_more, one_page_more, pages_in}
use Rattle.fdp_checkpoint.proofs.collect.collect.Goals as goal

pub loop-number-init : goal.loop-number-init
loop-number-init g c =
    let none = c.new-bytes.ensures.items in
    record { reads = no_read _; faultless = refl; size = refl; long = ap length none ∙ omega arith; joined = λ told. none }

pub fetch_page-requires-clause-page : goal.fetch_page-requires-clause-page
fetch_page-requires-clause-page g c told =
    after_reads _ _ _ (λ (cells : List Cell). c.loop-number.number < length (pages_in c.args.geometry.now c.args.area cells c.args.seal.now.stamp)) c.loop-number.invariant.reads
    (λ there. omega (arith, c.requires.pages there, c.loop-number-test.true)) told

pub returns-then-not-fetch_page-clause-reads : goal.returns-then-not-fetch_page-clause-reads
returns-then-not-fetch_page-clause-reads g c =
    reads_fewer _ _ _ _ (omega (arith, c.loop-number-test.true)) (reads_joined _ _ _ _ _ c.loop-number.invariant.reads c.fetch_page.ensures.reads)

pub returns-then-not-fetch_page-clause-ends : goal.returns-then-not-fetch_page-clause-ends
returns-then-not-fetch_page-clause-ends g c =
    let is : c.fetch_page.result ≡ false = search rules in
    let now = g.F.Flash.state c.loop-number.flash in
    let new = g.F.Flash.state c.fetch_page.new.flash in
    subst (λ (m : ℕ). FailsLast (g.F.Flash.state c.args.flash.now) new m) (sym c.moment.ensures)
    (failed_behind _ _ _ _ _ c.loop-number.invariant.reads.held.run (subst (λ (b : Bool). EndsFetch now new b) is c.fetch_page.ensures.ends))

pub returns-in-Err-clause-reads : goal.returns-in-Err-clause-reads
returns-in-Err-clause-reads g c =
    reads_fewer _ _ _ _ (omega (arith, c.loop-number-test.true)) (reads_joined _ _ _ _ _ c.loop-number.invariant.reads c.fetch_page.ensures.reads)

pub returns-in-Err-clause-ends : goal.returns-in-Err-clause-ends
returns-in-Err-clause-ends g c =
    let is : c.fetch_page.result ≡ true = search rules in
    subst (λ (b : Bool). EndsFetch (g.F.Flash.state c.loop-number.flash) (g.F.Flash.state c.fetch_page.new.flash) b) is c.fetch_page.ensures.ends ∙ c.loop-number.invariant.faultless

pub loop-number-preserved : goal.loop-number-preserved
loop-number-preserved g c =
    let inv = c.loop-number.invariant in
    let is : c.fetch_page.result ≡ true = search rules in
    record {
      reads = reads_joined _ _ _ _ _ inv.reads c.fetch_page.ensures.reads;
      faultless = subst (λ (b : Bool). EndsFetch (g.F.Flash.state c.loop-number.flash) (g.F.Flash.state c.fetch_page.new.flash) b) is c.fetch_page.ensures.ends ∙ inv.faultless;
      size = c.fetch_page.ensures.size ∙ inv.size;
      long =
          ap length c.in-Ok.ensures.items ∙ length-append c.loop-number.bytes.items c.fetch_page.new.page
          ∙ one_block_more c.loop-number.number c.args.geometry.now.block (length c.loop-number.bytes.items) (length c.fetch_page.new.page) inv.long (c.fetch_page.ensures.size ∙ inv.size ∙ c.requires.room);
      joined = λ told.
          let at = before_reads _ _ _ (λ (cells : List Cell). slice_get (pages_in c.args.geometry.now c.args.area cells c.args.seal.now.stamp) c.loop-number.number ≡ Some c.fetch_page.new.page) inv.reads (λ there. c.fetch_page.ensures.bytes there is) told in
          one_page_more _ c.loop-number.number _ _ _ (inv.joined told) at c.in-Ok.ensures.items;
    }

pub returns-clause-bytes : goal.returns-clause-bytes
returns-clause-bytes g c told =
    let inv = c.loop-number.invariant in
    c.from_vec.ensures ∙ inv.joined told ∙ ap concat (take_all c.loop-number.number (pages_in c.args.geometry.now c.args.area (g.F.Flash.state c.args.flash.now).cells c.args.seal.now.stamp) (omega (arith, c.requires.pages told, c.loop-number-test.false)))
