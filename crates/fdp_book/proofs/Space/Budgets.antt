-- What the tables of a book tell of the room of a group.
use Rattle.std.proofs.Common.{◌≡◌, ℕ, ◌+◌, ◌-◌, ◌≤◌, Option, Some, None, refl, ap, arith, subst}
use Rattle.std.specs.Prelude.{◌==◌, option_map}
use Rattle.fdp_rules.specs.PlainState.{Block, PlainState}
use Rattle.fdp_rules.specs.Room.{lies_in}
use Rattle.fdp_map.specs.declared.mapped.Mapped.{Mapped}
use Rattle.fdp_map.specs.MapTable.{Agrees, MapTable, is_mapped_in, mapped_at}
use Rattle.fdp_base.specs.declared.config.DriveConfig.{DriveConfig}
use Rattle.fdp_book.specs.declared.tables.Tables.{Tables}
use Rattle.fdp_book.specs.Book.{BookSeen, state_in, first_in}
use Rattle.fdp_book.specs.Held.{IsHeld, IsMapOf}

lies-mapped : (rg : ℕ) (b : Option Block) (m : Option Mapped) → option_map (λ (x : Block). x.rg) b ≡ option_map (λ (x : Mapped). x.rg) m → lies_in rg b ≡ is_mapped_in rg m
lies-mapped rg None None h = refl
lies-mapped rg (Some b) (Some m) h = let same : b.rg ≡ m.rg = cc in ap (λ (g : ℕ). g == rg) same
lies-mapped rg None (Some m) h = absurd cc
lies-mapped rg (Some b) None h = absurd cc

-- the map tells how many blocks lie in a group
map-agrees : (c : DriveConfig) (s : PlainState) (m : MapTable) (rg : ℕ) → IsMapOf c s m → Agrees m rg s
map-agrees c s m rg h = record {
  sizes = h.sizes;
  blocks = λ nsid lba. lies-mapped rg (s.blocks nsid lba) (mapped_at m nsid lba) (h.groups nsid lba);
}

-- the map of a book tells how many blocks lie in a group
pub book-agrees : (t : Tables) (b now : BookSeen) (rg : ℕ) → IsHeld b.config b.found (first_in b) b.entries t → b ≡ now → Agrees t.map rg (state_in now)
book-agrees t b now rg held same = subst (λ (x : BookSeen). Agrees t.map rg (state_in x)) same (map-agrees b.config (state_in b) t.map rg held.map_is)

-- what is left of a sum without one part is the other
pub less-part : (all part rest sum : ℕ) → rest + part ≡ sum → all ≡ sum → all - part ≡ rest
less-part all part rest sum parts whole = omega (arith, parts, whole)

pub part-below : (all part rest sum : ℕ) → rest + part ≡ sum → all ≡ sum → part ≤ all
part-below all part rest sum parts whole = omega (arith, parts, whole)
