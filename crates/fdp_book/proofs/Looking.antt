-- What the outline of a book tells of what stands.
use Rattle.std.proofs.Common.{◌≡◌, subst, sym}
use Rattle.fdp_book.specs.Book.{BookSeen, point_in}
use Rattle.fdp_book.specs.Outlined.{IsOutlineAt}
use Rattle.fdp_snapshot.specs.declared.state.Summary.{Summary}

-- it is that of what stands
pub outline-in : (b now : BookSeen) (s outline : Summary) → b ≡ now → s ≡ outline → IsOutlineAt b.config (point_in b) outline → IsOutlineAt now.config (point_in now) s
outline-in b now s outline same is h = subst (λ (x : BookSeen). IsOutlineAt x.config (point_in x) s) same (subst (IsOutlineAt b.config (point_in b)) (sym is) h)
