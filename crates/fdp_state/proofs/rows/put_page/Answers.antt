use Rattle.std.proofs.Common.{None, refl, sym}
use Rattle.fdp_image.specs.Checkpoint.{page_in_lists, reading_of_state}
use Rattle.fdp_state.specs.Owners.{with_page}
use Rattle.fdp_state.proofs.Owning.{block, with-page-here}
use Rattle.fdp_state.proofs.Putting.{one-put}
use Rattle.fdp_state.proofs.rows.put_page.Goals as goal

pub returns : goal.returns
unfolding reading_of_state
returns c =
    let pages = page_in_lists c.args.parts.now.pages.items in
    let b = block c.args.nsid c.args.lba in
    record {
      put =
          one-put c.args.parts.now _ refl b c.args.page c.requires.sound c.put_in.ensures.rows c.put_in.ensures.sizes c.put_in.ensures.pages
          (c.claim.ensures (with_page pages b None) (c.release.ensures pages b c.requires.sound.owners (sym c.page_at-old.ensures)) (with-page-here pages b None));
      small = c.put_in.ensures.small;
    }
