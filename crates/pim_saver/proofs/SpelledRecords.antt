-- Each record is read of its bytes, and of no others: of bytes, of each kind of call, and of records.
use Rattle.std.{proofs.{Common.{◌≡◌, ℕ, ◌+◌, ◌≤◌, Bool, true, false, cond, eqb, ltb, List, [], ◌∷◌, ◌++◌, length, take, drop, Result, Ok, Err, refl, sym, ap, subst, ◌∙◌, append_assoc, arith, inl, inr, ◌⊎◌}, lemmas.{Bool.{eq-eqb, eqb-true, ltb-false, le-ltb}, List.{take_at, drop_at, take-append-drop, length-append, length-take, get_or-drop, Concat.flat_map-cons}}}, specs.List.{AllByRecursion, flat_map}}
use Rattle.pim_ip.{specs.declared.addr.Addr.Addr}
use Rattle.pim_types.{specs.declared.{config.{IfaceId.IfaceId, Route.Route, RpRange.RpRange, RpCandidate.RpCandidate}, event.EventKind.EventKind}}
use Rattle.pim_saved.{specs.{Crc.crc32, declared.refusal.SavedRefusal.SavedRefusal, Fits.FitsWord, Laws.AreBytes, Reading.{Reader, iface_at, made, moment_at, word_at}, Text.{moment_text, word_text}}, proofs.{Spelled.{AreBytes-rest, IsSpelled, Takes, Takes-then, bind_ok, both, guard_ok, list, made_of, moment, ok_is, word}, SpelledRows.{address, interface, range, route, settings, candidate}, Summed.sum_fits}}
use Rattle.pim_anycast.{specs.declared.set.RpSet.RpSet}
use Rattle.pim_saver.{specs.{Fits.{FitsAnswered, FitsBytes, FitsCall, FitsEvent, FitsRecord, FitsRpSet}, RecordLaws.{OneRecording, ReadingIsRecord, RecordIsRead}, Reading.{Configured, PlacedConfigured, answered_at, by_letter, bytes_at, bytes_of_length, call_at, drawn, front_at, kinds, record_at, rp_set_at, summed_at}, Records.{Call, Guard, Happened, Hosts, Kept, Placed, Record, Reloaded, Seen, Sets, Version, answered_text, bytes_text, call_text, event_text, front_text, record_text, rp_set_text}, declared.answered.Answered.Answered}}

-- ---- bytes behind their count

AreBytes-drop : (n : ℕ) (bytes : List ℕ) → AreBytes bytes → AreBytes (drop n bytes)
AreBytes-drop n bytes h i = rw get_or-drop (h (n + i))

bytes_take : (bytes : List ℕ) (x : List ℕ × List ℕ) → AreBytes bytes → bytes_at bytes ≡ Ok x → Takes bytes (bytes_text x.0) x.1 × FitsBytes x.0
bytes_take bytes x fits e =
    let n = bind_ok (moment_at bytes) (λ n. bytes_of_length n.0 n.1) x e in
    let one = moment.takes bytes n.0 fits n.1 in
    let read : List ℕ × List ℕ = (take n.0.0 n.0.1, drop n.0.0 n.0.1) in
    let g = guard_ok (ltb (length n.0.1) n.0.0) SavedRefusal.CutShort read x n.2 in
    let long : n.0.0 ≤ length n.0.1 = ltb-false _ _ g.0 in
    let len : length (take n.0.0 n.0.1) ≡ n.0.0 = omega (arith, length-take n.0.0 n.0.1) in
    let front : Takes n.0.1 (take n.0.0 n.0.1) (drop n.0.0 n.0.1) = record { parts = sym (take-append-drop n.0.0 n.0.1); rest_fits = AreBytes-drop n.0.0 n.0.1 one.0.rest_fits } in
    let joined = Takes-then bytes (moment_text n.0.0) n.0.1 (take n.0.0 n.0.1) (drop n.0.0 n.0.1) one.0 front in
    subst (λ (y : List ℕ × List ℕ). Takes bytes (bytes_text y.0) y.1 × FitsBytes y.0) g.1
    (subst (λ (k : ℕ). Takes bytes (moment_text k ++ take n.0.0 n.0.1) (drop n.0.0 n.0.1)) (sym len) joined, rw len one.1)

bytes_again : (bytes rest : List ℕ) → FitsBytes bytes → bytes_at (bytes_text bytes ++ rest) ≡ Ok (bytes, rest)
bytes_again bytes rest fits =
    let long : ltb (length (bytes ++ rest)) (length bytes) ≡ false = le-ltb _ _ (omega (arith, length-append bytes rest)) in
    ap bytes_at (append_assoc (moment_text (length bytes)) bytes rest)
    ∙ rw (moment.again (length bytes) (bytes ++ rest) fits, long, take_at bytes rest (length bytes) refl, drop_at bytes rest (length bytes) refl) refl

counted : IsSpelled FitsBytes bytes_text bytes_at
counted = record { takes = bytes_take; again = bytes_again }

iface : IsSpelled (λ (i : IfaceId). FitsWord i.number) (λ (i : IfaceId). word_text i.number) iface_at
iface = made_of (λ (n : ℕ). record { number = n }) (λ (i : IfaceId). i.number) (λ n. refl) (λ i. refl) word

rp_set : IsSpelled FitsRpSet rp_set_text rp_set_at
unfolding rp_set_text FitsRpSet
rp_set = made_of (λ (p : Addr × (Addr × List Addr)). record { shared = p.0; own = p.1.0; others = p.1.1 }) (λ (set : RpSet). (set.shared, (set.own, set.others))) (λ p. refl) (λ set. refl) (both address (both address (list address)))

-- ---- each kind of call

abbrev IsTaken : ℕ → Reader Call → Type 0
IsTaken letter at = (bytes : List ℕ) (x : Call × List ℕ) → AreBytes bytes → at bytes ≡ Ok x → Takes (letter ∷ bytes) (call_text x.0) x.1 × FitsCall x.0

module _ {A : Type 0} {FitsA : A → Type 0} {text_a : A → List ℕ} {a_at : Reader A} (make : A → Call) (part : IsSpelled FitsA text_a a_at) where
  kind_again : (a : A) (rest : List ℕ) → FitsA a → made make a_at (text_a a ++ rest) ≡ Ok (make a, rest)
  kind_again a rest fits = rw (part.again a rest fits) refl

  kind_takes : (letter : ℕ) → ((a : A) → call_text (make a) ≡ letter ∷ text_a a) → ((a : A) → FitsA a → FitsCall (make a)) → IsTaken letter (made make a_at)
  kind_takes letter spelled fit bytes x fits e =
      let a = bind_ok (a_at bytes) (λ a. Ok (make a.0, a.1)) x e in
      let one = part.takes bytes a.0 fits a.1 in
      let read : Call × List ℕ = (make a.0.0, a.0.1) in
      subst (λ (y : Call × List ℕ). Takes (letter ∷ bytes) (call_text y.0) y.1 × FitsCall y.0) (ok_is read x a.2)
      (record { parts = ap (λ (t : List ℕ). letter ∷ t) one.0.parts ∙ ap (λ (t : List ℕ). t ++ a.0.1) (sym (spelled a.0.0)); rest_fits = one.0.rest_fits }, fit a.0.0 one.1)

taken : AllByRecursion (λ (k : ℕ × Reader Call). IsTaken k.0 k.1) kinds
taken = (
  kind_takes (drawn (λ (n : ℕ). EventKind.Advance n)) (both word moment) 97 (λ p. refl) (λ p f. f),
  (
    kind_takes (drawn (λ (p : IfaceId × List ℕ). EventKind.Frame p.0 p.1)) (both word (both iface counted)) 102 (λ p. refl) (λ p f. f),
    (
      kind_takes (drawn (λ (bytes : List ℕ). EventKind.Unicast bytes)) (both word counted) 117 (λ p. refl) (λ p f. f),
      (
        kind_takes (drawn (λ (i : IfaceId). EventKind.Up i)) (both word iface) 43 (λ p. refl) (λ p f. f),
        (
          kind_takes (drawn (λ (i : IfaceId). EventKind.Down i)) (both word iface) 45 (λ p. refl) (λ p f. f),
          (
            kind_takes (drawn (λ (routes : List Route). EventKind.Routes routes)) (both word (list route)) 114 (λ p. refl) (λ p f. f),
            (
              kind_takes (drawn (λ (ranges : List RpRange). EventKind.Rps ranges)) (both word (list range)) 103 (λ p. refl) (λ p f. f),
              (
                kind_takes (drawn (λ (candidates : List RpCandidate). EventKind.RpCandidates candidates)) (both word (list candidate)) 104 (λ p. refl) (λ p f. f),
                (
                  kind_takes (λ (p : Configured). Reloaded p.0 p.1.0 p.1.1.0 p.1.1.1.0 p.1.1.1.1.0 p.1.1.1.1.1) (both word (both settings (both (list interface) (both (list address) (both (list route) (list range)))))) 99 (λ p. refl) (λ p f. f),
                  (
                    kind_takes (λ (p : PlacedConfigured). Placed p.0 p.1.0 p.1.1.0 p.1.1.1.0 p.1.1.1.1.0 p.1.1.1.1.1.0 p.1.1.1.1.1.1) (both word (both settings (both (list interface) (both (list address) (both (list route) (both (list range) (list word))))))) 109 (λ p. refl) (λ p f. f),
                    (
                      kind_takes (λ (p : ℕ × (IfaceId × (Addr × Addr))). Seen p.0 p.1.0 p.1.1.0 p.1.1.1) (both word (both iface (both address address))) 115 (λ p. refl) (λ p f. f),
                      (
                        kind_takes (λ (p : Addr × (Addr × ℕ)). Kept p.0 p.1.0 p.1.1) (both address (both address moment)) 107 (λ p. refl) (λ p f. f),
                        (
                          kind_takes (λ (p : IfaceId × ℕ). Hosts p.0 p.1) (both iface word) 111 (λ p. refl) (λ p f. f),
                          (
                            kind_takes (λ (p : IfaceId × ℕ). Version p.0 p.1) (both iface word) 113 (λ p. refl) (λ p f. f),
                            (
                              kind_takes (λ (n : ℕ). Guard n) word 100 (λ n. refl) (λ n f. f),
                              (
                                kind_takes (λ (sets : List RpSet). Sets sets) (list rp_set) 121 (λ sets. refl) (λ sets f. f),
                                tt,
                              ),
                            ),
                          ),
                        ),
                      ),
                    ),
                  ),
                ),
              ),
            ),
          ),
        ),
      ),
    ),
  ),
)

chosen : {A : Type 0} (b : Bool) (r s t : A) → cond b r s ≡ t → ((b ≡ true) × (r ≡ t)) ⊎ ((b ≡ false) × (s ≡ t))
chosen true r s t e = inl (refl, e)
chosen false r s t e = inr (refl, e)

by_letter_takes : (ks : List (ℕ × Reader Call)) → AllByRecursion (λ (k : ℕ × Reader Call). IsTaken k.0 k.1) ks → (letter : ℕ) → IsTaken letter (by_letter ks letter)
by_letter_takes [] h letter bytes x fits e = absurd cc
by_letter_takes (k ∷ ks) h letter bytes x fits e =
    elim (chosen (eqb letter k.0) (k.1 bytes) (by_letter ks letter bytes) (Ok x) e) [
      | inl p ↦ subst (λ (l : ℕ). Takes (l ∷ bytes) (call_text x.0) x.1 × FitsCall x.0) (sym (eqb-true letter k.0 p.0)) (h.0 bytes x fits p.1)
      | inr p ↦ by_letter_takes ks h.1 letter bytes x fits p.1
    ]

call_takes : (bytes : List ℕ) (x : Call × List ℕ) → AreBytes bytes → call_at bytes ≡ Ok x → Takes bytes (call_text x.0) x.1 × FitsCall x.0
call_takes [] x fits e = absurd cc
call_takes (letter ∷ bytes) x fits e = by_letter_takes kinds taken letter bytes x (AreBytes-rest letter bytes fits) e

event_again : (draw : ℕ) (kind : EventKind) (rest : List ℕ) → FitsEvent draw kind → call_at (event_text draw kind ++ rest) ≡ Ok (Happened (record { draw = draw; kind = kind }), rest)
event_again draw (EventKind.Advance n) rest fits = kind_again (drawn (λ (n : ℕ). EventKind.Advance n)) (both word moment) (draw, n) rest fits
event_again draw (EventKind.Frame i bytes) rest fits = kind_again (drawn (λ (p : IfaceId × List ℕ). EventKind.Frame p.0 p.1)) (both word (both iface counted)) (draw, (i, bytes)) rest fits
event_again draw (EventKind.Unicast bytes) rest fits = kind_again (drawn (λ (bytes : List ℕ). EventKind.Unicast bytes)) (both word counted) (draw, bytes) rest fits
event_again draw (EventKind.Up i) rest fits = kind_again (drawn (λ (i : IfaceId). EventKind.Up i)) (both word iface) (draw, i) rest fits
event_again draw (EventKind.Down i) rest fits = kind_again (drawn (λ (i : IfaceId). EventKind.Down i)) (both word iface) (draw, i) rest fits
event_again draw (EventKind.Routes routes) rest fits = kind_again (drawn (λ (routes : List Route). EventKind.Routes routes)) (both word (list route)) (draw, routes) rest fits
event_again draw (EventKind.Rps ranges) rest fits = kind_again (drawn (λ (ranges : List RpRange). EventKind.Rps ranges)) (both word (list range)) (draw, ranges) rest fits
event_again draw (EventKind.RpCandidates candidates) rest fits = kind_again (drawn (λ (candidates : List RpCandidate). EventKind.RpCandidates candidates)) (both word (list candidate)) (draw, candidates) rest fits

call_again : (c : Call) (rest : List ℕ) → FitsCall c → call_at (call_text c ++ rest) ≡ Ok (c, rest)
call_again (Happened event) rest fits = event_again event.draw event.kind rest fits
call_again (Reloaded draw s interfaces addresses routes ranges) rest fits = kind_again (λ (p : Configured). Reloaded p.0 p.1.0 p.1.1.0 p.1.1.1.0 p.1.1.1.1.0 p.1.1.1.1.1) (both word (both settings (both (list interface) (both (list address) (both (list route) (list range)))))) (draw, (s, (interfaces, (addresses, (routes, ranges))))) rest fits
call_again (Placed draw s interfaces addresses routes ranges places) rest fits = kind_again (λ (p : PlacedConfigured). Placed p.0 p.1.0 p.1.1.0 p.1.1.1.0 p.1.1.1.1.0 p.1.1.1.1.1.0 p.1.1.1.1.1.1) (both word (both settings (both (list interface) (both (list address) (both (list route) (both (list range) (list word))))))) (draw, (s, (interfaces, (addresses, (routes, (ranges, places)))))) rest fits
call_again (Seen draw i source group) rest fits = kind_again (λ (p : ℕ × (IfaceId × (Addr × Addr))). Seen p.0 p.1.0 p.1.1.0 p.1.1.1) (both word (both iface (both address address))) (draw, (i, (source, group))) rest fits
call_again (Kept source group m) rest fits = kind_again (λ (p : Addr × (Addr × ℕ)). Kept p.0 p.1.0 p.1.1) (both address (both address moment)) (source, (group, m)) rest fits
call_again (Hosts i hosts) rest fits = kind_again (λ (p : IfaceId × ℕ). Hosts p.0 p.1) (both iface word) (i, hosts) rest fits
call_again (Version i version) rest fits = kind_again (λ (p : IfaceId × ℕ). Version p.0 p.1) (both iface word) (i, version) rest fits
call_again (Guard is_on) rest fits = kind_again (λ (n : ℕ). Guard n) word is_on rest fits
call_again (Sets sets) rest fits = kind_again (λ (sets : List RpSet). Sets sets) (list rp_set) sets rest fits

-- ---- records

call : IsSpelled FitsCall call_text call_at
call = record { takes = call_takes; again = call_again }

answered : IsSpelled FitsAnswered answered_text answered_at
answered = made_of (λ (p : ℕ × ℕ). record { answer = p.0; sum = p.1 }) (λ (a : Answered). (a.answer, a.sum)) (λ p. refl) (λ a. refl) (both word word)

front : IsSpelled FitsRecord front_text front_at
unfolding front_at
front = made_of (λ (p : Call × Answered). record { call = p.0; answered = p.1 }) (λ (r : Record). (r.call, r.answered)) (λ p. refl) (λ r. refl) (both call answered)

kept : (b : Bool) (d : SavedRefusal) (r x : Record × List ℕ) → cond b (Ok r) (Err d) ≡ Ok x → (b ≡ true) × (r ≡ x)
kept true d r x e = (refl, ok_is r x e)
kept false d r x e = absurd cc

record_takes : (bytes : List ℕ) (x : Record × List ℕ) → AreBytes bytes → record_at bytes ≡ Ok x → Takes bytes (record_text x.0) x.1 × FitsRecord x.0
unfolding record_at
record_takes bytes x fits e =
    let a = bind_ok (front_at bytes) (λ r. summed_at r.0 r.1) x e in
    let one = front.takes bytes a.0 fits a.1 in
    let sum : ℕ = crc32 (front_text a.0.0) in
    let w = bind_ok (word_at a.0.1) (λ w. cond (eqb w.0 sum) (Ok (a.0.0, w.1)) (Err SavedRefusal.Damaged)) x a.2 in
    let two = word.takes a.0.1 w.0 one.0.rest_fits w.1 in
    let is = kept (eqb w.0.0 sum) SavedRefusal.Damaged (a.0.0, w.0.1) x w.2 in
    let joined = Takes-then bytes (front_text a.0.0) a.0.1 (word_text w.0.0) w.0.1 one.0 two.0 in
    subst (λ (y : Record × List ℕ). Takes bytes (record_text y.0) y.1 × FitsRecord y.0) is.1
    (subst (λ (n : ℕ). Takes bytes (front_text a.0.0 ++ word_text n) w.0.1) (eqb-true w.0.0 sum is.0) joined, one.1)

record_again : (r : Record) (rest : List ℕ) → FitsRecord r → record_at (record_text r ++ rest) ≡ Ok (r, rest)
unfolding record_at
record_again r rest fits =
    let sum : ℕ = crc32 (front_text r) in
    ap record_at (append_assoc (front_text r) (word_text sum) rest)
    ∙ rw (front.again r (word_text sum ++ rest) fits, word.again sum rest (sum_fits (front_text r)), eq-eqb sum sum refl) refl

recorded : IsSpelled FitsRecord record_text record_at
recorded = record { takes = record_takes; again = record_again }

pub record_is_read : RecordIsRead
record_is_read r rest fits = recorded.again r rest fits

pub reading_is_record : ReadingIsRecord
reading_is_record bytes rest r fits e =
    let t = recorded.takes bytes (r, rest) fits e in
    (t.0.parts, t.1)

clash : {A B : Type 0} (d : SavedRefusal) (x : A) (r : Result A SavedRefusal) → r ≡ Err d → r ≡ Ok x → B
clash d x r e f = absurd cc

none_read : record_at [] ≡ Err SavedRefusal.CutShort
unfolding record_at front_at
none_read = refl

first_read : (r : Record) (rs : List Record) → FitsRecord r → record_at (flat_map record_text (r ∷ rs)) ≡ Ok (r, flat_map record_text rs)
first_read r rs fits = ap record_at (flat_map-cons record_text r rs) ∙ recorded.again r (flat_map record_text rs) fits

pub one_recording : OneRecording
one_recording [] [] fr fq e = refl
one_recording [] (q ∷ qs) fr fq e =
    clash SavedRefusal.CutShort (q, flat_map record_text qs) (record_at []) none_read (ap record_at e ∙ first_read q qs fq.0)
one_recording (r ∷ rs) [] fr fq e =
    clash SavedRefusal.CutShort (r, flat_map record_text rs) (record_at []) none_read (ap record_at (sym e) ∙ first_read r rs fr.0)
one_recording (r ∷ rs) (q ∷ qs) fr fq e =
    let same = ok_is (r, flat_map record_text rs) (q, flat_map record_text qs) (sym (first_read r rs fr.0) ∙ ap record_at e ∙ first_read q qs fq.0) in
    let first : r ≡ q = ap (λ (p : Record × List ℕ). p.0) same in
    let others : rs ≡ qs = one_recording rs qs fr.1 fq.1 (ap (λ (p : Record × List ℕ). p.1) same) in
    ap (λ (x : Record). x ∷ rs) first ∙ ap (λ (xs : List Record). q ∷ xs) others
