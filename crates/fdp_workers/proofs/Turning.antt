-- What a turn makes of the record, and of what a seat knows of it.
use Rattle.std.proofs.Common.{◌≡◌, ◌≢◌, ◌⊎◌, inl, inr, ℕ, ◌+◌, ◌<◌, ◌≤◌, true, List, [], ◌∷◌, ◌++◌, length, drop, None, refl, sym, ◌∙◌, ap, subst, arith, append_assoc, length-append}
use Rattle.std.specs.Prelude.{map}
use mathlib.Core.List.{IsPrefix, append-nil, map-append}
use Rattle.std.proofs.Math.Seq.{drop-append_seam}
use Rattle.std.proofs.lemmas.List.{length-map}
use Rattle.std.proofs.lemmas.List.Elements.{All-append, All-cons, All-nil}
use Rattle.fdp_base.specs.declared.command.Command.{Command}
use Rattle.fdp_base.specs.declared.entry.Entry.{Entry}
use Rattle.fdp_base.specs.declared.entry.Entry.TheVariants as entries
use Rattle.fdp_base.specs.declared.recorded.Mark.{Mark}
use Rattle.fdp_base.specs.CommandKinds.{is_write}
use Rattle.fdp_base.specs.Records.{carrying, CarriesNone, CarriesOnly}
use Rattle.fdp_base.proofs.Records.{carrying-append, carrying-none, prefix_rest}
use Rattle.fdp_core.specs.fdp_book.declared.ticket.Done.{Done}
use Rattle.fdp_core.specs.fdp_book.declared.ticket.Ticket.{Ticket}
use Rattle.fdp_rules.specs.Change.{started}
use Rattle.fdp_rules.specs.PlainState.{Going}
use Rattle.fdp_workers.specs.Hosting.{IsTicketIn}
use Rattle.fdp_workers.specs.Queues.{Has, NoOtherGoes, Progress, ended, flying}
use Rattle.fdp_workers.specs.Run.{AreNext, IsHistory, Run, position_by, state_by}
use Rattle.fdp_workers.specs.Turns.{AddsNone, AddsOwn, Completes, PlacesPage, Starts}
use Rattle.fdp_workers.proofs.Nexts.{next-behind}
use Rattle.fdp_workers.proofs.Progressing.{has-host, has-others, has-placed, has-started}
use Rattle.fdp_workers.proofs.Seated.{position-is}

-- ---- what a turn adds is the seat's own, or of none

-- a record goes on by items with this number or with none
pub record GoesOnBy {I : Type 0} (mark : I → Mark) (queue : ℕ) (old new : List I) : Type 0 where
  pub goes_on : IsPrefix old new
  pub own : CarriesOnly mark queue (drop (length old) new)

module _ {I : Type 0} (mark : I → Mark) (queue : ℕ) where
  only-none : (xs : List I) → CarriesNone mark xs → CarriesOnly mark queue xs
  only-none xs none = λ k d low. inl (none k d low)

  by-added : (old new added : List I) → new ≡ old ++ added → CarriesOnly mark queue added → GoesOnBy mark queue old new
  by-added old new added is only = record {
    goes_on = (added, sym is);
    own = let same : drop (length old) new ≡ added = ap (drop (length old)) is ∙ drop-append_seam old added in subst (CarriesOnly mark queue) (sym same) only;
  }

  pub by-none : (old new : List I) → AddsNone mark old new → GoesOnBy mark queue old new
  by-none old new a = by-added old new a.added a.new_is (only-none a.added a.none)

  pub by-own : (entry : I → Entry) (old new : List I) (e : Entry) → AddsOwn entry mark queue old new e → GoesOnBy mark queue old new
  by-own entry old new e a =
      let P : I → Type 0 = λ x. ((mark x).number ≡ 0) ⊎ ((mark x).number ≡ queue) in
      by-added old new (a.before ++ a.own ∷ []) (a.new_is ∙ append_assoc old a.before (a.own ∷ []))
      (All-append P a.before (a.own ∷ []) (only-none a.before a.none) (All-cons P a.own [] (inr a.number_is) (All-nil P)))

  pub by-nothing : (old : List I) → GoesOnBy mark queue old old
  by-nothing old = by-added old old [] (sym (append-nil old)) (only-none [] (All-nil (λ x. (mark x).number ≡ 0)))

pub own-longer : {I : Type 0} (entry : I → Entry) (mark : I → Mark) (queue : ℕ) (old new : List I) (e : Entry) → AddsOwn entry mark queue old new e → length old < length new
own-longer entry mark queue old new e a = omega (arith, ap length a.new_is, length-append (old ++ a.before) (a.own ∷ []), length-append old a.before)

-- ---- what the queue then has

module _ {I : Type 0} (run : Run) (entry : I → Entry) (mark : I → Mark) (queue : ℕ) where
  -- the entries before the own one, and what the queue has in them
  record Behind (p : Progress) (new : List I) (e : Entry) : Type 0 where
    pub es : List Entry
    pub new_is : map entry new ≡ es ++ e ∷ []
    pub longer : length new ≡ length es + 1
    pub has : Has run queue p es

  behind-own : (p : Progress) (old new : List I) (e : Entry) → AddsOwn entry mark queue old new e → IsHistory run entry mark new → queue ≢ 0 → Has run queue p (map entry old) → Behind p new e
  behind-own p old new e a history nonzero h =
      let next : AreNext run entry mark [] (old ++ (a.before ++ a.own ∷ [])) = subst (AreNext run entry mark []) (a.new_is ∙ append_assoc old a.before (a.own ∷ [])) history.next in
      let es : List Entry = map entry old ++ map entry a.before in
      let last : map entry new ≡ es ++ e ∷ [] =
      ap (map entry) a.new_is ∙ map-append entry (old ++ a.before) (a.own ∷ []) ∙ ap (λ (xs : List Entry). xs ++ entry a.own ∷ []) (map-append entry old a.before) ∙ ap (λ (x : Entry). es ++ x ∷ []) a.entry_is in
      record {
        es = es;
        new_is = last;
        longer = omega (arith, length-map new entry, ap length last, length-append es (e ∷ []));
        has = has-others run entry mark queue p (map entry old) a.before (a.own ∷ []) (next-behind run entry mark [] old (a.before ++ a.own ∷ []) next) (carrying-none mark queue a.before a.none nonzero) h;
      }

  pub completes-has : (p : Progress) (old new : List I) (number : ℕ) (command : Command) (done : Done) → Completes run entry mark old new queue number command done → IsHistory run entry mark new → queue ≢ 0 →
      (is_write command ≡ true) ⊎ (p.going ≡ None) → NoOtherGoes number command p.going → Has run queue p (map entry old) → Has run queue (ended p number command done.position) (map entry new)
  completes-has p old new number command done c history nonzero either only h =
      let b = behind-own p old new _ c.adds history nonzero h in
      let at : done.position ≡ run.found.totals.position + (length b.es + 1) = c.position_is ∙ ap (λ (n : ℕ). run.found.totals.position + n) b.longer in
      subst (Has run queue (ended p number command done.position)) (sym b.new_is) (has-host run queue p b.es number command done.reply done.moment done.position at either only b.has)

  -- a write that was started, and its ticket
  pub record Started (p : Progress) (new : List I) (number : ℕ) (command : Command) (ticket : Ticket) : Type 0 where
    pub going : Going
    pub ticket_is : IsTicketIn queue ticket going
    pub number_is : going.number ≡ number
    pub command_is : going.command ≡ command
    pub has : Has run queue (flying p going 0) (map entry new)

  pub starts-has : (p : Progress) (old new : List I) (number : ℕ) (command : Command) (ticket : Ticket) → Starts run entry mark old new queue number command ticket → IsHistory run entry mark new → queue ≢ 0 →
      p.going ≡ None → Has run queue p (map entry old) → Started p new number command ticket
  starts-has p old new number command ticket s history nonzero idle h =
      let b = behind-own p old new _ s.adds history nonzero h in
      let x : Going = started run.config (state_by run b.es) number command s.rg s.ruh s.pid_valid in
      let position : x.ticket ≡ position_by run (length new) = omega (arith, position-is run.config run.found b.es, b.longer) in
      record {
        going = x;
        ticket_is = record {
          queue_is = ap (λ (t : Ticket). t.queue) s.ticket_is;
          number_is = sym (ap (λ (t : Ticket). t.number) s.ticket_is);
          position_is = position ∙ sym (ap (λ (t : Ticket). t.position) s.ticket_is);
          write = s.write;
        };
        number_is = refl;
        command_is = refl;
        has = subst (Has run queue (flying p x 0)) (sym b.new_is) (has-started run queue p b.es number command s.rg s.ruh s.pid_valid idle b.has);
      }

  pub places-has : (p : Progress) (old new : List I) (ticket : Ticket) (x : Going) (count : ℕ) → ticket.queue ≡ queue → x.ticket ≡ ticket.position → PlacesPage entry mark old new ticket → IsHistory run entry mark new → queue ≢ 0 →
      Has run queue (flying p x count) (map entry old) → Has run queue (flying p x (count + 1)) (map entry new)
  places-has p old new ticket x count same at placed history nonzero h =
      let adds = subst (λ (q : ℕ). AddsOwn entry mark q old new (entries.Placed (record { ticket = ticket.position; index = placed.index; unit = placed.unit; page = placed.page }))) same placed.adds in
      let b = behind-own (flying p x count) old new _ adds history nonzero h in
      subst (Has run queue (flying p x (count + 1))) (sym b.new_is) (has-placed run queue p b.es ticket.position placed.index placed.unit placed.page x count at b.has)

  pub none-has : (p : Progress) (old new : List I) → AddsNone mark old new → IsHistory run entry mark new → queue ≢ 0 → Has run queue p (map entry old) → Has run queue p (map entry new)
  none-has p old new a history nonzero h =
      let all : new ≡ old ++ (a.added ++ []) = a.new_is ∙ ap (λ (xs : List I). old ++ xs) (sym (append-nil a.added)) in
      let next : AreNext run entry mark [] (old ++ (a.added ++ [])) = subst (AreNext run entry mark []) all history.next in
      let more : map entry new ≡ map entry old ++ map entry a.added = ap (map entry) a.new_is ∙ map-append entry old a.added in
      subst (Has run queue p) (sym more)
      (has-others run entry mark queue p (map entry old) a.added [] (next-behind run entry mark [] old (a.added ++ []) next) (carrying-none mark queue a.added a.none nonzero) h)

  -- ---- what a seat may expect after a turn

  nothing-left : (xs ys : List I) → xs ++ ys ≡ xs → ys ≡ []
  nothing-left [] ys same = same
  nothing-left (x ∷ xs) ys same = nothing-left xs ys cc

  -- what the queue has in what the seat has seen, it has in each history that goes on from it with no more of its entries
  pub expects-has : (p : Progress) (seen made : List I) → made ≡ carrying mark queue seen → Has run queue p (map entry seen) →
      (items : List I) → IsPrefix seen items → carrying mark queue items ≡ made → IsHistory run entry mark items → Has run queue p (map entry items)
  expects-has p seen made is h items goes_on own history =
      let rest : List I = goes_on.0 in
      let both : carrying mark queue seen ++ carrying mark queue rest ≡ carrying mark queue seen = sym (carrying-append mark queue seen rest) ∙ ap (carrying mark queue) goes_on.1 ∙ own ∙ is in
      let none : carrying mark queue rest ≡ [] = nothing-left (carrying mark queue seen) (carrying mark queue rest) both in
      let all : items ≡ seen ++ (rest ++ []) = sym goes_on.1 ∙ ap (λ (xs : List I). seen ++ xs) (sym (append-nil rest)) in
      let next : AreNext run entry mark [] (seen ++ (rest ++ [])) = subst (AreNext run entry mark []) all history.next in
      let more : map entry items ≡ map entry seen ++ map entry rest = ap (map entry) (sym goes_on.1) ∙ map-append entry seen rest in
      subst (Has run queue p) (sym more) (has-others run entry mark queue p (map entry seen) rest [] (next-behind run entry mark [] seen (rest ++ []) next) none h)

  -- the entries that a seat has made once it has seen all of the record
  pub made-all : (seen made new : List I) → carrying mark queue seen ≡ made → IsPrefix seen new → made ++ carrying mark queue (drop (length seen) new) ≡ carrying mark queue new
  made-all seen made new own goes_on =
      ap (λ (xs : List I). xs ++ carrying mark queue (drop (length seen) new)) (sym own)
      ∙ sym (carrying-append mark queue seen (drop (length seen) new))
      ∙ ap (carrying mark queue) (prefix_rest seen new goes_on)
