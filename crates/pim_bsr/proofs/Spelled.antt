-- What a listener knows is spelled by its text, and by no other.
use Rattle.std.{proofs.{Common.{◌≡◌, ◌∙◌, ℕ, Bool, true, false, eqb, List, [], ◌∷◌, ◌++◌, Option, Ok, Err, refl, sym, ap, subst, append_assoc, arith}, lemmas.{Bool.{eq-eqb, eqb-true}, List.append-nil}}, specs.Prelude.if◌then◌else◌}
use Rattle.pim_ip.{specs.declared.addr.{Addr.Addr, Prefix.Prefix}}
use Rattle.pim_saved.{specs.{Crc.crc32, Fits.{FitsPrefix, FitsWord}, Laws.AreBytes, Reading.{◌>>=◌, Reader, half_at, in_turn, made, prefix_at, undamaged, word_at}, Text.{half_text, prefix_text, word_text}, declared.refusal.SavedRefusal.SavedRefusal}, proofs.{Spelled.{IsSpelled, Takes, bind_ok, both, byte, flag, half, list, made_of, moment, ok_is, option, passed, word}, SpelledRows.{address, range}, Summed.{is_summed, sum_fits, sum_of_front}}}
use Rattle.pim_bootstrap.{specs.declared.bootstrap.CandidateRp.CandidateRp}
use Rattle.pim_bsr.{specs.{Reading.{KnownParts, at_end, candidate_at, choice_of, configured_at, elected_at, election_at, known_of, known_reading, last_at, learned_at, part_at, parts_at, said_at, same_or, table_at, tag_at, version_at}, Saved.{KnownReadingIsText, KnownTextIsRead}, Table.{Known, Table}, Text.{FitsCandidate, FitsConfigured, FitsElected, FitsElection, FitsKnown, FitsLast, FitsLearned, FitsPart, FitsSaid, FitsTable, body_text, candidate_text, configured_of, configured_text, elected_text, election_text, front_text, known_text, last_of, last_text, learned_text, part_text, said_of, said_text, table_text, tag, version_of}, declared.{choice.Choice.Choice, learned.{Elected.Elected, Learned.Learned, Part.Part}, saved.Election.Election}}}

-- ---- rows

prefix : IsSpelled FitsPrefix prefix_text prefix_at
unfolding prefix_text prefix_at
prefix =
    made_of (λ (p : Addr × ℕ). record { address = p.0; length = p.1 }) (λ (p : Prefix). (p.address, p.length))
    (λ p. refl) (λ p. refl) (both address word)

learned : IsSpelled FitsLearned learned_text learned_at
unfolding learned_text learned_at
learned =
    made_of
    (λ (p : Prefix × (ℕ × (Addr × (ℕ × ℕ)))). record { prefix = p.0; hash_length = p.1.0; rp = p.1.1.0; priority = p.1.1.1.0; end = p.1.1.1.1 })
    (λ (l : Learned). (l.prefix, (l.hash_length, (l.rp, (l.priority, l.end)))))
    (λ p. refl) (λ l. refl) (both prefix (both byte (both address (both byte moment))))

candidate : IsSpelled FitsCandidate candidate_text candidate_at
unfolding candidate_text candidate_at
candidate =
    made_of (λ (p : Addr × (ℕ × ℕ)). record { address = p.0; holdtime = p.1.0; priority = p.1.1 })
    (λ (c : CandidateRp). (c.address, (c.holdtime, c.priority)))
    (λ p. refl) (λ c. refl) (both address (both half byte))

part : IsSpelled FitsPart part_text part_at
unfolding part_text part_at
part =
    made_of
    (λ (p : Prefix × (CandidateRp × (Addr × (ℕ × ℕ)))). record { prefix = p.0; rp = p.1.0; bsr = p.1.1.0; tag = p.1.1.1.0; until = p.1.1.1.1 })
    (λ (q : Part). (q.prefix, (q.rp, (q.bsr, (q.tag, q.until)))))
    (λ p. refl) (λ q. refl) (both prefix (both candidate (both address (both half moment))))

elected : IsSpelled FitsElected elected_text elected_at
unfolding elected_text elected_at
elected =
    made_of (λ (p : Addr × (ℕ × ℕ)). record { bsr = p.0; priority = p.1.0; end = p.1.1 })
    (λ (e : Elected). (e.bsr, (e.priority, e.end)))
    (λ p. refl) (λ e. refl) (both address (both byte moment))

election : IsSpelled FitsElection election_text election_at
unfolding election_text election_at
election =
    made_of (λ (p : Option Elected × (Bool × ℕ)). record { elected = p.0; heard = p.1.0; refresh_end = p.1.1 })
    (λ (e : Election). (e.elected, (e.heard, e.refresh_end)))
    (λ p. refl) (λ e. refl) (both (option elected) (both flag moment))

-- ---- what is known

configured : IsSpelled FitsConfigured configured_text configured_at
unfolding configured_text configured_at
configured = both (list range) moment

table : IsSpelled FitsTable table_text table_at
unfolding table_text table_at
table =
    made_of (λ (p : List Learned × List Part). record { rps = p.0; parts = p.1 }) (λ (t : Table). (t.rps, t.parts))
    (λ p. refl) (λ t. refl) (both (list learned) (list part))

said : IsSpelled FitsSaid said_text said_at
unfolding said_text said_at
said = both election table

last : IsSpelled FitsLast last_text last_at
unfolding last_text last_at
last = both (list byte) moment

abbrev parts_of : Known → KnownParts
parts_of k = (configured_of k, (said_of k, last_of k))

all_parts : IsSpelled (λ (p : KnownParts). FitsConfigured p.0 × (FitsSaid p.1.0 × FitsLast p.1.1))
    (λ (p : KnownParts). configured_text p.0 ++ (said_text p.1.0 ++ last_text p.1.1)) parts_at
unfolding parts_at
all_parts = both configured (both said last)

-- what is known, where an RP is chosen for this
abbrev FitsChosen : Choice → Known → Type 0
FitsChosen choice k = FitsKnown k × (k.choice ≡ choice)

module _ (choice : Choice) where
  known_takes : (bytes : List ℕ) (x : Known × List ℕ) → AreBytes bytes → made (known_of choice) parts_at bytes ≡ Ok x
      → Takes bytes (body_text x.0) x.1 × FitsChosen choice x.0
  unfolding body_text
  known_takes bytes x are e =
      let a = bind_ok (parts_at bytes) (λ a. Ok (known_of choice a.0, a.1)) x e in
      let one = all_parts.takes bytes a.0 are a.1 in
      subst (λ (y : Known × List ℕ). Takes bytes (body_text y.0) y.1 × FitsChosen choice y.0)
      (ok_is (known_of choice a.0.0, a.0.1) x a.2) (one.0, (one.1, refl))

  known_again : (k : Known) (rest : List ℕ) → FitsChosen choice k → made (known_of choice) parts_at (body_text k ++ rest) ≡ Ok (k, rest)
  unfolding body_text
  known_again k rest fits =
      subst (λ (c : Choice). made (known_of c) parts_at (body_text k ++ rest) ≡ Ok (k, rest)) fits.1
      (rw (all_parts.again (parts_of k) rest fits.0) refl)

  known : IsSpelled (FitsChosen choice) body_text (made (known_of choice) parts_at)
  known = record { takes = known_takes; again = known_again }

  summed : IsSpelled (λ (p : Known × ℕ). FitsChosen choice p.0 × FitsWord p.1) (λ (p : Known × ℕ). body_text p.0 ++ word_text p.1)
      (in_turn (made (known_of choice) parts_at) word_at)
  summed = both known word

-- ---- numbers that have to be these

module _ {Fits : ℕ → Type 0} {text : ℕ → List ℕ} {at : Reader ℕ} (number : IsSpelled Fits text at) (refusal : SavedRefusal) (n : ℕ) (fits : Fits n) where
  same_takes : (bytes : List ℕ) (x : ℕ × List ℕ) → AreBytes bytes → (at bytes >>= λ m. same_or refusal n m) ≡ Ok x
      → Takes bytes (text n) x.1
  same_takes bytes x are e =
      let m = bind_ok (at bytes) (λ m. same_or refusal n m) x e in
      let g = passed (eqb m.0.0 n) refusal m.0 x m.2 in
      let one = number.takes bytes m.0 are m.1 in
      subst (λ (y : ℕ × List ℕ). Takes bytes (text n) y.1) g.1
      (subst (λ (k : ℕ). Takes bytes (text k) m.0.1) (eqb-true m.0.0 n g.0) one.0)

  same_again : (rest : List ℕ) → (at (text n ++ rest) >>= λ m. same_or refusal n m) ≡ Ok (n, rest)
  same_again rest = rw (number.again n rest fits, eq-eqb n n refl) refl

-- ---- the version

by_number : (v : ℕ × List ℕ) (x : Choice × List ℕ) → choice_of v ≡ Ok x → (v.0 ≡ version_of x.0) × (v.1 ≡ x.1)
by_number v x e = go (eqb v.0 (version_of Choice.Range)) (eqb v.0 (version_of Choice.Group)) refl refl e
  where
    is_read : (c : Choice) → v.0 ≡ version_of c → (c, v.1) ≡ x → (v.0 ≡ version_of x.0) × (v.1 ≡ x.1)
    is_read c is same = subst (λ (y : Choice × List ℕ). (v.0 ≡ version_of y.0) × (v.1 ≡ y.1)) same (is, refl)

    go : (a b : Bool) → eqb v.0 (version_of Choice.Range) ≡ a → eqb v.0 (version_of Choice.Group) ≡ b
        → (if a then Ok (Choice.Range, v.1) else (if b then Ok (Choice.Group, v.1) else Err SavedRefusal.OtherVersion)) ≡ Ok x
        → (v.0 ≡ version_of x.0) × (v.1 ≡ x.1)
    go true b is other e = is_read Choice.Range (eqb-true v.0 (version_of Choice.Range) is) (ok_is (Choice.Range, v.1) x e)
    go false true is other e = is_read Choice.Group (eqb-true v.0 (version_of Choice.Group) other) (ok_is (Choice.Group, v.1) x e)
    go false false is other e = absurd cc

version_takes : (bytes : List ℕ) (x : Choice × List ℕ) → AreBytes bytes → version_at bytes ≡ Ok x
    → Takes bytes (half_text (version_of x.0)) x.1
version_takes bytes x are e =
    let m = bind_ok (half_at bytes) choice_of x e in
    let one = half.takes bytes m.0 are m.1 in
    let is = by_number m.0 x m.2 in
    subst (λ (rest : List ℕ). Takes bytes (half_text (version_of x.0)) rest) is.1
    (subst (λ (n : ℕ). Takes bytes (half_text n) m.0.1) is.0 one.0)

version_again : (choice : Choice) (rest : List ℕ) → version_at (half_text (version_of choice) ++ rest) ≡ Ok (choice, rest)
version_again Choice.Range rest = rw (half.again 1 rest (omega arith)) refl
version_again Choice.Group rest = rw (half.again 2 rest (omega arith)) refl

-- ---- the whole

pub known_text_is_read : KnownTextIsRead
unfolding known_reading known_text front_text
known_text_is_read k fits =
    let sum : ℕ = crc32 (front_text k) in
    let body : List ℕ = body_text k ++ word_text sum in
    let version : List ℕ = half_text (version_of k.choice) in
    let whole : known_text k ≡ word_text tag ++ (version ++ body) =
    append_assoc (word_text tag) (version ++ body_text k) (word_text sum)
    ∙ ap (λ (t : List ℕ). word_text tag ++ t) (append_assoc version (body_text k) (word_text sum)) in
    let first : tag_at (known_text k) ≡ Ok (tag, version ++ body) =
    ap tag_at whole ∙ same_again word SavedRefusal.NotOurs tag (omega arith) (version ++ body) in
    let second : version_at (version ++ body) ≡ Ok (k.choice, body) = version_again k.choice body in
    let last : in_turn (made (known_of k.choice) parts_at) word_at body ≡ Ok ((k, sum), []) =
    ap (in_turn (made (known_of k.choice) parts_at) word_at) (sym (append-nil body))
    ∙ (summed k.choice).again (k, sum) [] ((fits, refl), sum_fits (front_text k)) in
    rw (first, second, is_summed (front_text k), last) refl

ended : (k l : Known) (rest : List ℕ) → at_end k rest ≡ Ok l → (rest ≡ []) × (k ≡ l)
ended k l [] e = (refl, ok_is k l e)
ended k l (b ∷ rest) e = absurd cc

pub known_reading_is_text : KnownReadingIsText
unfolding known_reading known_text front_text
known_reading_is_text bytes k are e =
    let t = bind_ok (tag_at bytes) (λ t. version_at t.1 >>= λ v. undamaged bytes >>= λ u. in_turn (made (known_of v.0) parts_at) word_at v.1 >>= λ x. at_end x.0.0 x.1) k e in
    let v = bind_ok (version_at t.0.1) (λ v. undamaged bytes >>= λ u. in_turn (made (known_of v.0) parts_at) word_at v.1 >>= λ x. at_end x.0.0 x.1) k t.2 in
    let u = bind_ok (undamaged bytes) (λ u. in_turn (made (known_of v.0.0) parts_at) word_at v.0.1 >>= λ x. at_end x.0.0 x.1) k v.2 in
    let b = bind_ok (in_turn (made (known_of v.0.0) parts_at) word_at v.0.1) (λ x. at_end x.0.0 x.1) k u.2 in
    let end = ended b.0.0.0 k b.0.1 b.2 in
    let one = same_takes word SavedRefusal.NotOurs tag (omega arith) bytes t.0 are t.1 in
    let read = version_takes t.0.1 v.0 one.rest_fits v.1 in
    let three = (summed v.0.0).takes v.0.1 b.0 read.rest_fits b.1 in
    let version : List ℕ = half_text (version_of b.0.0.0.choice) in
    let two = subst (λ (c : Choice). Takes t.0.1 (half_text (version_of c)) v.0.1) (sym three.1.0.1) read in
    let front : List ℕ = front_text b.0.0.0 in
    let body : v.0.1 ≡ body_text b.0.0.0 ++ word_text b.0.0.1 =
    three.0.parts ∙ ap (λ (r : List ℕ). (body_text b.0.0.0 ++ word_text b.0.0.1) ++ r) end.0 ∙ append-nil (body_text b.0.0.0 ++ word_text b.0.0.1) in
    let written : bytes ≡ front ++ word_text b.0.0.1 =
    one.parts ∙ ap (λ (r : List ℕ). word_text tag ++ r) (two.parts ∙ ap (λ (r : List ℕ). version ++ r) body
    ∙ sym (append_assoc version (body_text b.0.0.0) (word_text b.0.0.1)))
    ∙ sym (append_assoc (word_text tag) (version ++ body_text b.0.0.0) (word_text b.0.0.1)) in
    let sum : b.0.0.1 ≡ crc32 front = sum_of_front front b.0.0.1 u.0 three.1.1 (ap undamaged (sym written) ∙ u.1) in
    let as_ours : bytes ≡ known_text b.0.0.0 = written ∙ ap (λ (n : ℕ). front ++ word_text n) sum in
    subst (λ (z : Known). (known_text z ≡ bytes) × FitsKnown z) end.1 (sym as_ours, three.1.0.0)
