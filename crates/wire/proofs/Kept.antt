-- The frames of a wire, from the entries of its log.
use Rattle.std.proofs.Common.{◌≡◌, ℕ, ◌-◌, ◌<◌, ◌≤◌, true, length, Option, Some, is_some, sym, ap, subst, arith}
use Rattle.std.proofs.lemmas.Bool.{true≢false}
use Rattle.std.proofs.lemmas.Bool.Decides.{nat_tests}
use Rattle.std.proofs.lemmas.List.{length-map, map-append, map-set}
use Rattle.std.proofs.lemmas.Option.{slice_get-map, slice_get_cases, slice_get_within}
use Rattle.std.specs.List.{slice_get}
use Rattle.std.specs.Option.{option_map}
use Rattle.lent_log.specs.Entries.{entries_of, size_of, room_of, entry_at}
use Rattle.lent_log.specs.Changes as log
use Rattle.lent_log.proofs.Sizes.{size_within}
use Rattle.wire.specs.declared.sent.Sent.{Sent}
use Rattle.wire.specs.declared.wire.Wire.{Wire}
use Rattle.wire.specs.Posted.{posted, TakenBy, frames, places}
use Rattle.wire.specs.Changes.{Marks}

pub frames_size : (w : Wire) → length (frames w) ≡ size_of w.log
unfolding frames
frames_size w = length-map (entries_of w.log) (posted w.width)

pub frames_room : (w : Wire) → room_of w.log ≡ places w - length (frames w)
frames_room w = ap (λ k. places w - k) (sym (frames_size w))

pub frames_within : (w : Wire) → length (frames w) ≤ places w
frames_within w = omega (arith, frames_size w, size_within w.log)

pub frames_nth : (w : Wire) (i : ℕ) → option_map (posted w.width) (entry_at w.log i) ≡ slice_get (frames w) i
unfolding frames
frames_nth w i = sym (slice_get-map (posted w.width) (entries_of w.log) i)

-- whether a frame stands at a place, whether there is room for one, and the frames with one more
pub ruleset standing = (nat_tests, frames_size, frames_within, slice_get_cases, map-append)

-- the frame there was replaced by one that the desk took too; o is what stood there
pub marking : (w w' : Wire) (i d : ℕ) (f f' : Sent) (o : Option Sent) → w'.width ≡ w.width → d < 16 → entry_at w.log i ≡ Some f → TakenBy d f f' → o ≡ entry_at w.log i → log.Replaced w.log i f' (is_some o) w'.log → Marks w i d true w'
unfolding frames
marking w w' i d f f' o same l e t q h =
    let there : is_some o ≡ true = grind arith in
    let r = subst (λ b. log.Replaced w.log i f' b w'.log) there h in
    let k = slice_get_within (entries_of w.log) i f e in
    let n = frames_nth w i in
    let z = frames_size w in
    let s = map-set (posted w.width) (entries_of w.log) i f' in
    let u = t w.width in
    record {
      answer = grind (arith, nat_tests);
      marked = λ x a p. grind arith;
      list = λ g a p. (f', (subst (λ y. TakenBy d y f') (grind arith) t, r));
      width = same;
      places = h.width;
      unchanged = λ z. absurd (true≢false z);
    }
