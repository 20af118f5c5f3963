-- Calls that only read, one after another.
use Rattle.std.proofs.Common.{◌≡◌, ℕ, ◌+◌, ◌≤◌, IsTrue, List, refl, arith, ◌∙◌, subst, sym}
use Rattle.fdp_base.specs.declared.entry.Spot.{Spot}
use Rattle.fdp_flash.specs.declared.answer.Fetched.{Fetched}
use Rattle.fdp_flash.specs.declared.answer.Seen.{Seen}
use Rattle.fdp_flash.specs.declared.cell.Cell.{Cell}
use Rattle.fdp_flash.specs.Answers.{Fetches, Looks}
use Rattle.fdp_flash.specs.FlashState.{Begins, FlashState}
use Rattle.fdp_flash.specs.OnlyReads.{ReadsOnly}
use Rattle.fdp_flash.proofs.Held.{holds_after_fetch, holds_after_look, holds_at_start, holds_joined, holds_weakened}

-- before the first call
pub no_read : (s : FlashState) → ReadsOnly 0 s s
no_read s = record { held = holds_at_start (λ cells. cells ≡ s.cells) s (λ told. refl); programs = refl; moments = omega arith }

-- one look more
pub look_more : (n : ℕ) (start now new : FlashState) (at : Spot) (spare bytes : List ℕ) (result : Seen) → ReadsOnly n start now → Begins now new → Looks now new at spare bytes result → ReadsOnly (n + 1) start new
look_more n start now new at spare bytes result p b a = record {
  held = holds_after_look (λ cells. cells ≡ start.cells) start now new at spare bytes result p.held b a;
  programs = a.reads.programs ∙ p.programs;
  moments = omega (arith, b.moment, p.moments);
}

-- one fetch more
pub fetch_more : (n : ℕ) (start now new : FlashState) (at : Spot) (spare bytes : List ℕ) (result : Fetched) → ReadsOnly n start now → Begins now new → Fetches now new at spare bytes result → ReadsOnly (n + 1) start new
fetch_more n start now new at spare bytes result p b a = record {
  held = holds_after_fetch (λ cells. cells ≡ start.cells) start now new at spare bytes result p.held b a;
  programs = a.reads.programs ∙ p.programs;
  moments = omega (arith, b.moment, p.moments);
}

-- fewer than at most so many
pub reads_fewer : (n m : ℕ) (start new : FlashState) → n ≤ m → ReadsOnly n start new → ReadsOnly m start new
reads_fewer n m start new le p = record { held = p.held; programs = p.programs; moments = omega (arith, p.moments) }

-- some calls, and then others
pub reads_joined : (n m : ℕ) (a b c : FlashState) → ReadsOnly n a b → ReadsOnly m b c → ReadsOnly (n + m) a c
reads_joined n m a b c p q = record {
  held = holds_joined (λ cells. cells ≡ a.cells) a b c p.held (holds_weakened (λ cells. cells ≡ b.cells) (λ cells. cells ≡ a.cells) b c q.held (λ t cells same. same ∙ p.held.cells (subst IsTrue p.held.run.told t)));
  programs = q.programs ∙ p.programs;
  moments = omega (arith, p.moments, q.moments);
}

-- what holds of the cells after some calls holds of those before them
pub before_reads : (n : ℕ) (start now : FlashState) (Fact : List Cell → Type 0) → ReadsOnly n start now → (IsTrue now.told → Fact now.cells) → IsTrue start.told → Fact start.cells
before_reads n start now Fact p fact told = subst Fact (p.held.cells told) (fact (subst IsTrue (sym p.held.run.told) told))

-- and the other way round
pub after_reads : (n : ℕ) (start now : FlashState) (Fact : List Cell → Type 0) → ReadsOnly n start now → (IsTrue start.told → Fact start.cells) → IsTrue now.told → Fact now.cells
after_reads n start now Fact p fact told = let there = subst IsTrue p.held.run.told told in subst Fact (sym (p.held.cells there)) (fact there)
