-- Rows of older hosts in front of a router's bytes: spelled by their text, and by no other.
use Rattle.std.{proofs.{Common.{◌≡◌, ◌∙◌, ℕ, ◌+◌, ◌-◌, Bool, true, false, cond, eqb, List, [], ◌∷◌, ◌++◌, length, take, drop, get_or, Option, Result, Ok, Err, refl, sym, ap, subst, append_assoc, arith, inl, inr}, lemmas.{Bool.{cases_lt, eqb-true}, List.{append-nil, get_or-drop, get_or-take, get_or_past, length-append, length-drop, length-take, take-append-drop}}}, specs.List.Sorted.IsStrictlySortedBy}
use Rattle.pim_types.{specs.declared.fact.Key.Key}
use Rattle.pim_model.{specs.{State.State, Tables.{Table, keys_in}}}
use Rattle.pim_saved.{specs.{declared.refusal.SavedRefusal.SavedRefusal, Crc.crc32, Fits.FitsTable, Laws.AreBytes, Reading.{◌>>=◌, reading, table_at, undamaged, word_at}, Text.{body_text, front_text, magic, table_text, text, word_text}}, proofs.{Spelled.{IsSpelled, bind_ok, both, made_of, ok_is, passed, word}, SpelledRows.end, SpelledStates.{reading_is_text, table, text_is_read}, Summed.{front_of, is_summed}}}
use Rattle.igmp_older_saved.specs.{declared.host.HostRow.HostRow, Laws.{HeldReadingIsText, HeldTextIsRead}, Reading.{before_sum, held_in, host_at, hosts_at, is_tag, is_tagged, opened, some_hosts, state_behind}, Text.{Held, FitsHeld, FitsHost, held_text, host_text, hosts_text, summed, tag, text_with}}

host : IsSpelled FitsHost host_text host_at
unfolding host_text host_at
host =
    made_of (λ (p : Option ℕ × Option ℕ). record { one_end = p.0; two_end = p.1 }) (λ (r : HostRow). (r.one_end, r.two_end))
    (λ p. refl) (λ r. refl) (both end end)

rows : IsSpelled (FitsTable FitsHost) (table_text host_text) (table_at host_at)
rows = table host

-- ---- the text is read

untagged : (s : State) → is_tagged (text s) ≡ false
unfolding text front_text
untagged s =
    let behind : List ℕ = body_text s ++ word_text (crc32 (front_text s)) in
    let first : word_at (text s) ≡ Ok (magic, behind) =
    ap word_at (append_assoc (word_text magic) (body_text s) (word_text (crc32 (front_text s)))) ∙ word.again magic behind (omega arith) in
    ap is_tag first

opened_plain : (bytes : List ℕ) → is_tagged bytes ≡ false → opened bytes ≡ Ok ([], bytes)
unfolding opened
opened_plain bytes e = rw e refl

opened_tagged : (bytes : List ℕ) → is_tagged bytes ≡ true → opened bytes ≡ (before_sum bytes >>= λ front. hosts_at front)
unfolding opened
opened_tagged bytes e = rw e refl

module _ (hosts : Table HostRow) (rest : List ℕ) where
  first_word : word_at (hosts_text hosts ++ rest) ≡ Ok (tag, table_text host_text hosts ++ rest)
  unfolding hosts_text
  first_word =
      ap word_at (append_assoc (word_text tag) (table_text host_text hosts) rest)
      ∙ word.again tag (table_text host_text hosts ++ rest) (omega arith)

tagged : (hosts : Table HostRow) (rest behind : List ℕ) → is_tagged ((hosts_text hosts ++ rest) ++ behind) ≡ true
tagged hosts rest behind =
    ap is_tag (ap word_at (append_assoc (hosts_text hosts) rest behind) ∙ first_word hosts (rest ++ behind))

sum_before : (front : List ℕ) → before_sum (summed front) ≡ Ok front
unfolding before_sum
sum_before front = rw (is_summed front, front_of front (crc32 front)) refl

hosts_again : (e : Key × HostRow) (more : Table HostRow) (rest : List ℕ) → FitsTable FitsHost (e ∷ more)
    → hosts_at (hosts_text (e ∷ more) ++ rest) ≡ Ok (e ∷ more, rest)
unfolding hosts_at
hosts_again e more rest fits = rw (first_word (e ∷ more) rest, rows.again (e ∷ more) rest fits) refl

opened_again : (hosts : Table HostRow) (s : State) → FitsTable FitsHost hosts → opened (text_with hosts (text s)) ≡ Ok (hosts, text s)
unfolding text_with
opened_again [] s fits = opened_plain (text s) (untagged s)
opened_again (e ∷ more) s fits =
    let front : List ℕ = hosts_text (e ∷ more) ++ text s in
    opened_tagged (summed front) (tagged (e ∷ more) (text s) (word_text (crc32 front)))
    ∙ ap (λ r. r >>= λ f. hosts_at f) (sum_before front) ∙ hosts_again e more (text s) fits

pub held_text_is_read : HeldTextIsRead
held_text_is_read h fits =
    ap held_in (opened_again h.hosts h.state fits.0) ∙ ap (state_behind h.hosts) (text_is_read h.state fits.1)

-- ---- what is read is the text

bytes_behind : (n : ℕ) (bytes : List ℕ) → AreBytes bytes → AreBytes (drop n bytes)
bytes_behind n bytes h i = rw get_or-drop (h (n + i))

bytes_before : (n : ℕ) (bytes : List ℕ) → AreBytes bytes → AreBytes (take n bytes)
bytes_before n bytes h i =
    elim (cases_lt i n) [
      | inl lt ↦ rw (get_or-take n bytes i 0 lt) (h i)
      | inr le ↦ rw (get_or_past (take n bytes) i 0 (omega (arith, length-take n bytes))) (omega arith)
    ]

none_left : (xs : List ℕ) → length xs ≡ 0 → xs ≡ []
none_left [] e = refl
none_left (x ∷ xs) e = absurd (omega (arith, e))

-- bytes whose last four are the sum of those before
module _ (bytes : List ℕ) (u : Unit {0}) (are : AreBytes bytes) (e : undamaged bytes ≡ Ok u) where
  is_sum : bytes ≡ summed (take (length bytes - 4) bytes)
  unfolding undamaged
  is_sum =
      let n : ℕ = length bytes - 4 in
      let w = bind_ok (word_at (drop n bytes)) (λ w. cond (eqb w.0 (crc32 (take n bytes))) (Ok tt) (Err SavedRefusal.Damaged)) u e in
      let g = passed (eqb w.0.0 (crc32 (take n bytes))) SavedRefusal.Damaged tt u w.2 in
      let last = word.takes (drop n bytes) w.0 (bytes_behind n bytes are) w.1 in
      let counted : length (drop n bytes) ≡ 4 + length w.0.1 =
      ap (λ (l : List ℕ). length l) last.0.parts ∙ length-append (word_text w.0.0) w.0.1 in
      let none : w.0.1 ≡ [] = none_left w.0.1 (omega (arith, counted, length-drop n bytes)) in
      let four : drop n bytes ≡ word_text (crc32 (take n bytes)) =
      last.0.parts ∙ ap (λ (l : List ℕ). word_text w.0.0 ++ l) none ∙ append-nil (word_text w.0.0)
      ∙ ap word_text (eqb-true w.0.0 (crc32 (take n bytes)) g.0) in
      sym (take-append-drop n bytes) ∙ ap (λ (l : List ℕ). take n bytes ++ l) four

record Fronted (bytes front : List ℕ) : Type 0 where
  pub sum : bytes ≡ summed front
  pub are : AreBytes front

fronted : (bytes front : List ℕ) → AreBytes bytes → before_sum bytes ≡ Ok front → Fronted bytes front
unfolding before_sum
fronted bytes front are e =
    let u = bind_ok (undamaged bytes) (λ u. Ok (take (length bytes - 4) bytes)) front e in
    let is : take (length bytes - 4) bytes ≡ front = ok_is (take (length bytes - 4) bytes) front u.2 in
    subst (Fronted bytes) is (record { sum = is_sum bytes u.0 are u.1; are = bytes_before (length bytes - 4) bytes are })

record Opens (bytes : List ℕ) (p : Table HostRow × List ℕ) : Type 0 where
  pub spelled : text_with p.0 p.1 ≡ bytes
  pub fits : FitsTable FitsHost p.0
  pub are : AreBytes p.1

some_are : (bytes : List ℕ) (hosts : Table HostRow) (rest : List ℕ) (p : Table HostRow × List ℕ)
    → some_hosts hosts rest ≡ Ok p → summed (hosts_text hosts ++ rest) ≡ bytes → FitsTable FitsHost hosts → AreBytes rest → Opens bytes p
unfolding text_with
some_are bytes [] rest p e spelled fits are = absurd cc
some_are bytes (x ∷ more) rest p e spelled fits are =
    subst (Opens bytes) (ok_is (x ∷ more, rest) p e) (record { spelled = spelled; fits = fits; are = are })

-- the rows behind their tag
module _ (bytes front : List ℕ) (p : Table HostRow × List ℕ) (of : Fronted bytes front) (is : is_tagged bytes ≡ true)
    (e : hosts_at front ≡ Ok p) where
  opens_tagged : Opens bytes p
  unfolding hosts_at hosts_text
  opens_tagged =
      let w = bind_ok (word_at front) (λ w. table_at host_at w.1 >>= λ t. some_hosts t.0 t.1) p e in
      let t = bind_ok (table_at host_at w.0.1) (λ t. some_hosts t.0 t.1) p w.2 in
      let one = word.takes front w.0 of.are w.1 in
      let two = rows.takes w.0.1 t.0 one.0.rest_fits t.1 in
      let sum : List ℕ = word_text (crc32 front) in
      let first : word_at bytes ≡ Ok (w.0.0, w.0.1 ++ sum) =
      ap word_at (of.sum ∙ ap (λ (l : List ℕ). l ++ sum) one.0.parts ∙ append_assoc (word_text w.0.0) w.0.1 sum)
      ∙ word.again w.0.0 (w.0.1 ++ sum) one.1 in
      let known : w.0.0 ≡ tag = eqb-true w.0.0 tag (sym (ap is_tag first) ∙ is) in
      let whole : front ≡ hosts_text t.0.0 ++ t.0.1 =
      one.0.parts ∙ ap (λ (l : List ℕ). word_text w.0.0 ++ l) two.0.parts
      ∙ ap (λ (m : ℕ). word_text m ++ (table_text host_text t.0.0 ++ t.0.1)) known
      ∙ sym (append_assoc (word_text tag) (table_text host_text t.0.0) t.0.1) in
      some_are bytes t.0.0 t.0.1 p t.2 (sym (of.sum ∙ ap summed whole)) two.1 two.0.rest_fits

pub none_fit : FitsTable FitsHost []
unfolding keys_in IsStrictlySortedBy
none_fit = ((omega arith, tt), tt)

opens_by : (bytes : List ℕ) (p : Table HostRow × List ℕ) → AreBytes bytes → opened bytes ≡ Ok p → (b : Bool) → is_tagged bytes ≡ b
    → Opens bytes p
unfolding text_with
opens_by bytes p are e false is =
    subst (Opens bytes) (ok_is ([], bytes) p (sym (opened_plain bytes is) ∙ e)) (record { spelled = refl; fits = none_fit; are = are })
opens_by bytes p are e true is =
    let f = bind_ok (before_sum bytes) (λ front. hosts_at front) p (sym (opened_tagged bytes is) ∙ e) in
    opens_tagged bytes f.0 p (fronted bytes f.0 are f.1) is f.2

opens : (bytes : List ℕ) (p : Table HostRow × List ℕ) → AreBytes bytes → opened bytes ≡ Ok p → Opens bytes p
opens bytes p are e = opens_by bytes p are e (is_tagged bytes) refl

abbrev made_held : Table HostRow → State → Held
made_held hosts s = record { hosts = hosts; state = s }

held_is : (hosts : Table HostRow) (s : State) (h : Held) → state_behind hosts (Ok s) ≡ Ok h → made_held hosts s ≡ h
held_is hosts s h e = cc

module _ (bytes : List ℕ) (h : Held) (are : AreBytes bytes) where
  by_state : (p : Table HostRow × List ℕ) → Opens bytes p → (r : Result State SavedRefusal) → reading p.1 ≡ r → state_behind p.0 r ≡ Ok h
      → (held_text h ≡ bytes) × FitsHeld h
  by_state p of (Err f) is e = absurd cc
  by_state p of (Ok s) is e =
      let one = reading_is_text p.1 s of.are is in
      let same : made_held p.0 s ≡ h = held_is p.0 s h e in
      subst (λ (x : Held). (held_text x ≡ bytes) × FitsHeld x) same
      (ap (text_with p.0) one.0 ∙ of.spelled, (of.fits, one.1))

  by_parts : (o : Result (Table HostRow × List ℕ) SavedRefusal) → opened bytes ≡ o → held_in o ≡ Ok h → (held_text h ≡ bytes) × FitsHeld h
  by_parts (Err f) is e = absurd cc
  by_parts (Ok p) is e = by_state p (opens bytes p are is) (reading p.1) refl e

pub held_reading_is_text : HeldReadingIsText
held_reading_is_text bytes h are e = by_parts bytes h are (opened bytes) refl e
