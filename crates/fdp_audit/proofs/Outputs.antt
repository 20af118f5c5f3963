-- The output of a run has the form of one.
use Rattle.std.proofs.Common.{◌≡◌, ℕ, zero, suc, ◌+◌, ◌<◌, ◌≤◌, Bool, true, false, ◌&&◌, nat_le, nat_lt, List, [], ◌∷◌, ◌++◌, length, get_or, take, Option, None, Some, refl, sym, ap, subst, ◌∙◌, arith, inl, inr, if◌then◌else◌}
use Rattle.std.specs.Prelude.{codes, decimal, bytes_eq, flat_map, nat_eq}
use Rattle.std.specs.List.{AllByRecursion}
use Rattle.std.specs.Option.{option_map_or}
use Rattle.std.proofs.lemmas.Bool.{cases_Bool}
use Rattle.std.proofs.lemmas.Bool.Decides.{nat_tests}
use Rattle.std.proofs.lemmas.List.{append-nil}
use Rattle.std.proofs.lemmas.Slice.Eq.{bytes_eq-Decides}
use Rattle.fdp_base.specs.declared.command.Command.{Command}
use Rattle.fdp_base.specs.declared.command.Command.TheVariants as commands
use Rattle.fdp_base.specs.declared.config.DriveConfig.{DriveConfig}
use Rattle.fdp_base.specs.declared.entry.Entry.{Entry}
use Rattle.fdp_base.specs.declared.entry.Host.{Host}
use Rattle.fdp_base.specs.declared.entry.Reply.{Reply}
use Rattle.fdp_base.specs.declared.event.Event.{Event}
use Rattle.fdp_base.specs.CommandKinds.{word_of}
use Rattle.fdp_base.specs.EntryKinds.{host_of}
use Rattle.fdp_base.specs.EventCodes.{flags_code, kind_code}
use Rattle.fdp_base.specs.Geometry.{IsWithin}
use Rattle.fdp_base.specs.Numbers.{numbers_below, numbers_from}
use Rattle.fdp_base.specs.Text.{hex, hex_bytes, line, spaced, status_text}
use Rattle.fdp_output.specs.Output.{block_text, completion, completion_of, data_text, pieces_of, queue_text}
use Rattle.fdp_output.specs.RunOutput.{closing_text, event_line, output_of, placement_text, totals_line, usage_line}
use Rattle.fdp_prints.proofs.Data.{indented, show-block, show-bytes}
use Rattle.fdp_prints.proofs.Visible.{AllShow, IsShown, no_feed, no_feed_in, tag}
use Rattle.fdp_prints.proofs.Words.{show-number as show-hex-number, show-status}
use Rattle.fdp_reader.specs.declared.place.Place.{Place}
use Rattle.fdp_reader.specs.declared.place.Place.TheVariants as places
use Rattle.fdp_reader.specs.Form.{AreLines, IsForm, IsLine, begins, begins_with_digit, step, text_of, walk}
use Rattle.fdp_reader.proofs.Cuts.{lines-append, text-append}
use Rattle.fdp_reader.proofs.Walking.{walk-on, walk-one}
use Rattle.fdp_rules.specs.History.{Found, point_of}
use Rattle.fdp_rules.specs.LogPages.{usage_of}
use Rattle.fdp_rules.specs.Point.{Point}
use Rattle.fdp_rules.specs.Room.{handles_in_force}
use Rattle.fdp_audit.proofs.Decimals.{decimal-first, show-number}

-- the lines of a text lead from one place to another
pub record Leads (c : DriveConfig) (from : Place) (text : List ℕ) (to : Place) : Type 0 where
  pub lines : List (List ℕ)
  pub whole : AreLines lines
  pub text_is : text ≡ text_of lines
  pub steps : walk c from lines ≡ Some to

stay : (c : DriveConfig) (p : Place) → Leads c p [] p
unfolding walk
stay c p = record { lines = []; whole = tt; text_is = refl; steps = refl }

on : (c : DriveConfig) (p q r : Place) (x y : List ℕ) → Leads c p x q → Leads c q y r → Leads c p (x ++ y) r
on c p q r x y a b = record {
  lines = a.lines ++ b.lines;
  whole = lines-append a.lines b.lines a.whole b.whole;
  text_is = ap (λ (t : List ℕ). t ++ y) a.text_is ∙ ap (λ (t : List ℕ). text_of a.lines ++ t) b.text_is ∙ sym (text-append a.lines b.lines);
  steps = walk-on c p q r a.lines b.lines a.steps b.steps;
}

one : (c : DriveConfig) (p q : Place) (w : List ℕ) → IsLine w → step c p w ≡ Some q → Leads c p (w ++ 10 ∷ []) q
one c p q w is s = record { lines = w ∷ []; whole = (is, tt); text_is = sym (append-nil (w ++ 10 ∷ [])); steps = walk-one c p q w s }

-- texts that lead back to where they begin
all-stay : {A : Type 0} (c : DriveConfig) (p : Place) (f : A → List ℕ) → ((x : A) → Leads c p (f x) p) → (xs : List A) → Leads c p (flat_map f xs) p
all-stay c p f each [] = stay c p
all-stay c p f each (x ∷ xs) = on c p p p (f x) (flat_map f xs) (each x) (all-stay c p f each xs)

-- ---- single lines

no-begin : (b f : ℕ) (bs fs : List ℕ) → (b ≡ f → ⊥) → begins (f ∷ fs) (b ∷ bs) ≡ false
no-begin b f bs fs other = elim (cases_Bool (bytes_eq (take (length (f ∷ fs)) (b ∷ bs)) (f ∷ fs))) [
  | inl yes' ↦ let same = (bytes_eq-Decides (take (length (f ∷ fs)) (b ∷ bs)) (f ∷ fs)).0 yes' in absurd (other (ap (λ (xs : List ℕ). get_or xs 0 0) same))
  | inr no' ↦ no'
]

digit-bound : (b : ℕ) → (nat_le 48 b && nat_le b 57) ≡ true → b ≤ 57
digit-bound b e = grind (arith, nat_tests)

and-false : (b : Bool) → (b && false) ≡ false
and-false true = refl
and-false false = refl

-- the line of a completion goes on with it
digit-step : (c : DriveConfig) (n : ℕ) (w : List ℕ) → begins_with_digit w ≡ true → step c (places.Queue n) w ≡ Some (places.Queue n)
unfolding step
digit-step c n [] e = absurd cc
digit-step c n (b ∷ bs) e =
    let le = digit-bound b e in
    let sums = no-begin b 115 bs (116 ∷ 97 ∷ 116 ∷ 115 ∷ 32 ∷ []) (λ same. omega (arith, same, le)) in
    let queue = no-begin b 113 bs (117 ∷ 101 ∷ 117 ∷ 101 ∷ 32 ∷ []) (λ same. omega (arith, same, le)) in
    let more = and-false (nat_lt n c.queues) in
    rw (sums, queue, more, e) refl

-- and so does that of data
data-step : (c : DriveConfig) (n : ℕ) (t : List ℕ) → step c (places.Queue n) (codes "  " ++ t) ≡ Some (places.Queue n)
unfolding step
data-step c n t =
    let sums = no-begin 32 115 (32 ∷ t) (116 ∷ 97 ∷ 116 ∷ 115 ∷ 32 ∷ []) (λ same. omega (arith, same)) in
    let queue = no-begin 32 113 (32 ∷ t) (117 ∷ 101 ∷ 117 ∷ 101 ∷ 32 ∷ []) (λ same. omega (arith, same)) in
    let more = and-false (nat_lt n c.queues) in
    rw (sums, queue, more) refl

same-bytes : (xs : List ℕ) → bytes_eq xs xs ≡ true
same-bytes xs = (bytes_eq-Decides xs xs).1 refl

first-step : (c : DriveConfig) → step c places.Start (codes "queue " ++ decimal 1) ≡ Some (places.Queue 1)
unfolding step
first-step c = let same = same-bytes (decimal 1) in rw same refl

queue-step : (c : DriveConfig) (n : ℕ) → n < c.queues → step c (places.Queue n) (codes "queue " ++ decimal (n + 1)) ≡ Some (places.Queue (n + 1))
unfolding step
queue-step c n lt =
    let sums = no-begin 113 115 (117 ∷ 101 ∷ 117 ∷ 101 ∷ 32 ∷ decimal (n + 1)) (116 ∷ 97 ∷ 116 ∷ 115 ∷ 32 ∷ []) (λ same. omega (arith, same)) in
    let below : nat_lt n c.queues ≡ true = grind (arith, nat_tests, lt) in
    let same = same-bytes (decimal (n + 1)) in
    rw (sums, below, same) refl

sums-step : (c : DriveConfig) (n : ℕ) (t : List ℕ) → step c (places.Queue n) (codes "stats " ++ t) ≡ Some (places.Closing n)
unfolding step
sums-step c n t = refl

usage-step : (c : DriveConfig) (n : ℕ) (t : List ℕ) → step c (places.Closing n) (codes "ruh " ++ t) ≡ Some (places.Closing n)
unfolding step
usage-step c n t = refl

event-step : (c : DriveConfig) (n : ℕ) (t : List ℕ) → step c (places.Closing n) (codes "event " ++ t) ≡ Some (places.Closing n)
unfolding step
event-step c n t = refl

-- ---- completions

show-word : (x : Command) → IsShown (word_of x)
show-word (commands.Write w) = tag (codes "write") (omega arith) refl
show-word (commands.Read r) = tag (codes "read") (omega arith) refl
show-word (commands.Zero z) = tag (codes "zero") (omega arith) refl
show-word (commands.Dealloc d) = tag (codes "dealloc") (omega arith) refl
show-word (commands.Flush f) = tag (codes "flush") (omega arith) refl
show-word (commands.Delete d) = tag (codes "delete") (omega arith) refl
show-word (commands.Status s) = tag (codes "status") (omega arith) refl
show-word (commands.Update u) = tag (codes "update") (omega arith) refl
show-word (commands.Log l) = tag (codes "log") (omega arith) refl
show-word (commands.SetFdp s) = tag (codes "set-fdp") (omega arith) refl
show-word (commands.GetFdp g) = tag (codes "get-fdp") (omega arith) refl
show-word (commands.SetEvents s) = tag (codes "set-events") (omega arith) refl
show-word (commands.Create x) = tag (codes "create") (omega arith) refl
show-word (commands.Other o) = tag (codes "entry") (omega arith) refl

data-line-stays : (c : DriveConfig) (n : ℕ) (t : List ℕ) → AllShow t → Leads c (places.Queue n) (codes "  " ++ t ++ 10 ∷ []) (places.Queue n)
data-line-stays c n t shows = one c (places.Queue n) (places.Queue n) (codes "  " ++ t) (indented t (no_feed t shows)) (data-step c n t)

blocks-stay : (c : DriveConfig) (n count size : ℕ) (bytes : List ℕ) → Leads c (places.Queue n) (flat_map (λ b. codes "  " ++ block_text b ++ 10 ∷ []) (pieces_of count size bytes)) (places.Queue n)
blocks-stay c n count size bytes = all-stay c (places.Queue n) (λ b. codes "  " ++ block_text b ++ 10 ∷ []) (λ b. data-line-stays c n (block_text b) (show-block b)) (pieces_of count size bytes)

rows-stay : (c : DriveConfig) (n count size : ℕ) (bytes : List ℕ) → Leads c (places.Queue n) (flat_map (λ b. codes "  " ++ hex_bytes b ++ 10 ∷ []) (pieces_of count size bytes)) (places.Queue n)
rows-stay c n count size bytes = all-stay c (places.Queue n) (λ b. codes "  " ++ hex_bytes b ++ 10 ∷ []) (λ b. data-line-stays c n (hex_bytes b) (show-bytes b)) (pieces_of count size bytes)

data-stays : (c : DriveConfig) (n : ℕ) (x : Command) (bytes : List ℕ) → Leads c (places.Queue n) (data_text x bytes) (places.Queue n)
data-stays c n (commands.Write w) bytes = stay c (places.Queue n)
data-stays c n (commands.Read r) bytes = blocks-stay c n r.count _ bytes
data-stays c n (commands.Zero z) bytes = stay c (places.Queue n)
data-stays c n (commands.Dealloc d) bytes = stay c (places.Queue n)
data-stays c n (commands.Flush f) bytes = stay c (places.Queue n)
data-stays c n (commands.Delete d) bytes = stay c (places.Queue n)
data-stays c n (commands.Status s) bytes = rows-stay c n (length bytes) 32 bytes
data-stays c n (commands.Update u) bytes = stay c (places.Queue n)
data-stays c n (commands.Log l) bytes = rows-stay c n (length bytes) 32 bytes
data-stays c n (commands.SetFdp s) bytes = stay c (places.Queue n)
data-stays c n (commands.GetFdp g) bytes = stay c (places.Queue n)
data-stays c n (commands.SetEvents s) bytes = stay c (places.Queue n)
data-stays c n (commands.Create x) bytes = stay c (places.Queue n)
data-stays c n (commands.Other o) bytes = stay c (places.Queue n)

completion-stays : (c : DriveConfig) (n number : ℕ) (x : Command) (reply : Reply) → Leads c (places.Queue n) (completion number x reply) (places.Queue n)
completion-stays c n number x reply =
    let words = decimal number ∷ word_of x ∷ status_text reply.status ∷ hex 8 reply.dw0 ∷ [] in
    let shown : AllByRecursion IsShown words = (show-number number, (show-word x, (show-status reply.status, (show-hex-number 8 reply.dw0 (omega arith), tt)))) in
    on c (places.Queue n) (places.Queue n) (places.Queue n) (line words) (data_text x reply.bytes)
    (one c (places.Queue n) (places.Queue n) (spaced words) (no_feed_in words shown) (digit-step c n (spaced words) (decimal-first number _)))
    (data-stays c n x reply.bytes)

served-stays : (c : DriveConfig) (n queue : ℕ) (h : Host) (b : Bool) → Leads c (places.Queue n) (if b then completion h.number h.command h.reply else []) (places.Queue n)
served-stays c n queue h true = completion-stays c n h.number h.command h.reply
served-stays c n queue h false = stay c (places.Queue n)

entry-stays : (c : DriveConfig) (n queue : ℕ) (e : Entry) → Leads c (places.Queue n) (completion_of queue e) (places.Queue n)
entry-stays c n queue e = by (host_of e) where
  by : (o : Option Host) → Leads c (places.Queue n) (option_map_or (λ (h : Host). if nat_eq h.queue queue then completion h.number h.command h.reply else []) o []) (places.Queue n)
  by None = stay c (places.Queue n)
  by (Some h) = served-stays c n queue h (nat_eq h.queue queue)

-- ---- queues

queue-is-line : (n : ℕ) → IsLine (codes "queue " ++ decimal n)
queue-is-line n = no_feed_in (codes "queue" ∷ decimal n ∷ []) (tag (codes "queue") (omega arith) refl, (show-number n, tt))

queue-leads : (c : DriveConfig) (es : List Entry) (p : Place) (n : ℕ) → step c p (codes "queue " ++ decimal n) ≡ Some (places.Queue n) → Leads c p (queue_text es n) (places.Queue n)
queue-leads c es p n s =
    on c p (places.Queue n) (places.Queue n) (line (codes "queue" ∷ decimal n ∷ [])) (flat_map (completion_of n) es)
    (one c p (places.Queue n) (codes "queue " ++ decimal n) (queue-is-line n) s)
    (all-stay c (places.Queue n) (completion_of n) (entry-stays c n n) es)

-- the queues behind one
more-queues : (c : DriveConfig) (es : List Entry) (n count : ℕ) → n + count ≤ c.queues → Leads c (places.Queue n) (flat_map (queue_text es) (numbers_from (n + 1) count)) (places.Queue (n + count))
unfolding numbers_from
more-queues c es n zero le = let same : n ≡ n + 0 = omega arith in subst (λ (k : ℕ). Leads c (places.Queue n) [] (places.Queue k)) same (stay c (places.Queue n))
more-queues c es n (suc count) le =
    let rest = more-queues c es (n + 1) count (omega (arith, le)) in
    let same : n + 1 + count ≡ n + suc count = omega arith in
    subst (λ (k : ℕ). Leads c (places.Queue n) (queue_text es (n + 1) ++ flat_map (queue_text es) (numbers_from (n + 1 + 1) count)) (places.Queue k)) same
    (on c (places.Queue n) (places.Queue (n + 1)) (places.Queue (n + 1 + count)) (queue_text es (n + 1)) (flat_map (queue_text es) (numbers_from (n + 1 + 1) count))
    (queue-leads c es (places.Queue n) (n + 1) (queue-step c n (omega (arith, le)))) rest)

queues-lead : (c : DriveConfig) (es : List Entry) (count : ℕ) → count + 1 ≤ c.queues → Leads c places.Start (flat_map (queue_text es) (numbers_from 1 (suc count))) (places.Queue (1 + count))
unfolding numbers_from
queues-lead c es count le =
    on c places.Start (places.Queue 1) (places.Queue (1 + count)) (queue_text es 1) (flat_map (queue_text es) (numbers_from 2 count))
    (queue-leads c es places.Start 1 (first-step c))
    (more-queues c es 1 count (omega (arith, le)))

-- ---- what is told behind the completions

usage-stays : (c : DriveConfig) (n : ℕ) (s : ℕ → ℕ) (ruh : ℕ) → Leads c (places.Closing n) (usage_line ruh (s ruh)) (places.Closing n)
usage-stays c n s ruh =
    one c (places.Closing n) (places.Closing n) (spaced (codes "ruh" ∷ decimal ruh ∷ decimal (s ruh) ∷ []))
    (no_feed_in (codes "ruh" ∷ decimal ruh ∷ decimal (s ruh) ∷ []) (tag (codes "ruh") (omega arith) refl, (show-number ruh, (show-number (s ruh), tt))))
    (usage-step c n (spaced (decimal ruh ∷ decimal (s ruh) ∷ [])))

event-stays : (c : DriveConfig) (n : ℕ) (class : List ℕ) → IsShown class → (e : Event) → Leads c (places.Closing n) (event_line class e) (places.Closing n)
event-stays c n class shown e =
    let rest = hex 2 (kind_code e.kind) ∷ hex 2 (flags_code e.flags) ∷ hex 4 e.pid ∷ decimal e.position ∷ decimal e.nsid ∷ decimal e.moved ∷ decimal e.lba ∷ decimal e.rg ∷ decimal e.ruh ∷ [] in
    let shown-rest : AllByRecursion IsShown rest =
    (show-hex-number 2 _ (omega arith), (show-hex-number 2 _ (omega arith), (show-hex-number 4 _ (omega arith), (show-number e.position, (show-number e.nsid, (show-number e.moved, (show-number e.lba, (show-number e.rg, (show-number e.ruh, tt))))))))) in
    one c (places.Closing n) (places.Closing n) (spaced (codes "event" ∷ class ∷ rest))
    (no_feed_in (codes "event" ∷ class ∷ rest) (tag (codes "event") (omega arith) refl, (shown, shown-rest)))
    (event-step c n (spaced (class ∷ rest)))

placement-stays : (c : DriveConfig) (n : ℕ) (p : Point) → Leads c (places.Closing n) (placement_text c p) (places.Closing n)
placement-stays c n p =
    let place = places.Closing n in
    let usages = flat_map (λ ruh. usage_line ruh (usage_of p.state ruh)) (numbers_below (handles_in_force c p.state)) in
    let hosts = flat_map (event_line (codes "host")) p.host_events in
    let controllers = flat_map (event_line (codes "ctrl")) p.controller_events in
    on c place place place (usages ++ hosts) controllers
    (on c place place place usages hosts
    (all-stay c place (λ ruh. usage_line ruh (usage_of p.state ruh)) (usage-stays c n (usage_of p.state)) (numbers_below (handles_in_force c p.state)))
    (all-stay c place (event_line (codes "host")) (event-stays c n (codes "host") (tag (codes "host") (omega arith) refl)) p.host_events))
    (all-stay c place (event_line (codes "ctrl")) (event-stays c n (codes "ctrl") (tag (codes "ctrl") (omega arith) refl)) p.controller_events)

closing-leads : (c : DriveConfig) (n : ℕ) (p : Point) → Leads c (places.Queue n) (closing_text c p) (places.Closing n)
closing-leads c n p =
    on c (places.Queue n) (places.Closing n) (places.Closing n) (totals_line c p.totals) (if p.state.enabled then placement_text c p else [])
    (one c (places.Queue n) (places.Closing n) (spaced (codes "stats" ∷ decimal _ ∷ decimal _ ∷ decimal _ ∷ []))
    (no_feed_in (codes "stats" ∷ decimal _ ∷ decimal _ ∷ decimal _ ∷ []) (tag (codes "stats") (omega arith) refl, (show-number _, (show-number _, (show-number _, tt)))))
    (sums-step c n (spaced (decimal _ ∷ decimal _ ∷ decimal _ ∷ []))))
    (by p.state.enabled) where
      by : (b : Bool) → Leads c (places.Closing n) (if b then placement_text c p else []) (places.Closing n)
      by true = placement-stays c n p
      by false = stay c (places.Closing n)

-- the output of one to as many traces as there are queues
pub output-form : (c : DriveConfig) (f : Found) (traces : ℕ) (es : List Entry) → IsWithin 1 c.queues traces → IsForm c traces (output_of c f traces es)
unfolding output_of
output-form c f zero es within = absurd (omega (arith, within.0))
output-form c f (suc count) es within =
    let le = within.1 in
    let all = on c places.Start (places.Queue (1 + count)) (places.Closing (1 + count)) (flat_map (queue_text es) (numbers_from 1 (suc count))) (closing_text c (point_of c f es))
    (queues-lead c es count (omega (arith, le))) (closing-leads c (1 + count) (point_of c f es)) in
    let same : 1 + count ≡ suc count = omega arith in
    record { lines = all.lines; whole = all.whole; text = all.text_is; steps = subst (λ (k : ℕ). walk c places.Start all.lines ≡ Some (places.Closing k)) same all.steps }
