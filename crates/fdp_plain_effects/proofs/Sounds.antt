-- What keeps the tables of a machine sound.
use Rattle.std.proofs.Common.{◌≡◌, ◌∙◌, length, subst, sym}
use Rattle.fdp_tables.specs.declared.state.Kept.{Kept}
use Rattle.fdp_tables.specs.Sound.{IsSound}

-- other references change no other row
pub referenced_sound : (k m : Kept) → m ≡ record k { references = m.references } → length m.references.items ≡ length k.references.items → IsSound k → IsSound m
referenced_sound k m rest rows h =
    let after : Kept = record k { references = m.references } in
    let sound : IsSound after = record {
      config = h.config;
      start = h.start;
      index = h.index;
      generation = h.generation;
      spaces = h.spaces;
      handles = h.handles;
      known = h.known;
      births = h.births;
      reports = h.reports;
      references = rows ∙ h.references;
      going = h.going;
      writes = λ queue g e.
          let w = h.writes queue g e in
          record {
            handle = w.handle;
            group = w.group;
            ticket = w.ticket;
            birth = w.birth;
            blocks = w.blocks;
            placed = w.placed;
            pages = w.pages;
            range = w.range;
          };
      tickets = h.tickets;
      lost = h.lost;
      worn = h.worn;
      sites = h.sites;
      found_pages = h.found_pages;
      copies = h.copies;
      host_blocks = h.host_blocks;
      media_blocks = h.media_blocks;
      erases = h.erases;
    } in
    subst IsSound (sym rest) sound
