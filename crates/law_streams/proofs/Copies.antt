-- The laws of copies, from what an event makes.
use Rattle.std.{proofs.{Common.{◌≡◌, ◌∙◌, ℕ, ◌<◌, ◌==◌, true, false, List, [], ◌∷◌, ◌++◌, inl, inr, Option, refl, sym, ap, subst, arith, ltb-true}, lemmas.List.Elements.recursion_from_All}, specs.List.{All, AllByRecursion, Contains}}
use Rattle.pim_types.{specs.declared.{event.Event.Event, outcome.Emission.Emission}}
use Rattle.pim_model.{specs.{declared.accepted.Accepted.Accepted, Cause.done_as, State.{State, iface_count}, Step.step, Writing.on_link}}
use Rattle.law_settled.{proofs.ListLaws.{each_append, each_both, each_map, each_more}}
use Rattle.law_streams.{specs.{Copies.{IsLower, IsLowerInside, NeverBack, NeverTwice, TtlFalls, copies_at, happens}, Data.{EachEmissionIsOfAKind, IsMessage, IsOfAKind, OnlyCopiesAreData, SendsOnly}}, proofs.{Links.{contains_later, each_contained, on_each, to_all}, Made.{IsOf, IsRegister, Made, NotBack, step_made}}}

pub never_twice : NeverTwice
never_twice s e =
    let made : Made s (done_as (happens s e)) (step s e) = step_made s e in
    record {
      links = made.links;
      text = made.text;
      are = made.copies;
      rise = made.rise;
      configured = to_all (λ i. i < iface_count s) made.links made.configured;
    }

-- the number of the link
abbrev link_number : Emission → ℕ
link_number (Emission.Link i bytes) = i.number
link_number (Emission.Unicast to bytes) = 0

here : (i : ℕ) → (i == i) ≡ true
here i = grind arith

not_there : (i : ℕ) (text other : List ℕ) (links : List ℕ) → AllByRecursion (λ j. (j == i) ≡ false) links
    → Contains (on_each text links) (on_link i other) → ⊥
not_there i text other links f c =
    let found : (i == i) ≡ false =
    each_contained (λ (y : Emission). (link_number y == i) ≡ false) (on_each text links) (on_link i other)
    (each_map (λ j. (j == i) ≡ false) (λ (y : Emission). (link_number y == i) ≡ false) (λ j. on_link j text) (λ j e. e) links f) c in
    let it : true ≡ false = sym (here i) ∙ found in cc

pub never_back : NeverBack
never_back s e i p text was c =
    let made : Made s (done_as (happens s e)) (step s e) = step_made s e in
    not_there i.number made.text text made.links
    (subst (λ (o : Option Accepted). NotBack o made.links) was made.not_back)
    (subst (λ (es : List Emission). Contains es (on_link i.number text)) made.copies c)

lower : (s : State) (e : Event) (text : List ℕ) (i : ℕ) → IsOf (done_as (happens s e)) text → IsLower s e (on_link i text)
lower s e text i f = record {
  link = i;
  packet = f.packet;
  brought = f.brought;
  lives = ltb-true 1 (f.packet).time_to_live f.lives;
  is = ap (on_link i) f.is;
}

pub ttl_falls : TtlFalls
ttl_falls s e =
    let made : Made s (done_as (happens s e)) (step s e) = step_made s e in
    subst (λ (es : List Emission). All (IsLower s e) es) (sym made.copies)
    (to_all (IsLower s e) (on_each made.text made.links)
    (each_map (λ i. IsOf (done_as (happens s e)) made.text) (IsLower s e) (λ i. on_link i made.text) (λ i f. lower s e made.text i f)
    made.links made.of))

lower_inside : (s : State) (e : Event) (x : Emission) → IsRegister (done_as (happens s e)) x → IsLowerInside s e x
lower_inside s e x f = grind (arith, ltb-true)

pub only_copies_are_data : OnlyCopiesAreData
only_copies_are_data s e =
    let made : Made s (done_as (happens s e)) (step s e) = step_made s e in
    record {
      messages = made.messages;
      registered = made.registered;
      emissions = made.emissions ∙ ap (λ (c : List Emission). made.messages ++ c ++ made.registered) (sym made.copies);
      own = to_all IsMessage made.messages made.own;
      copies = ttl_falls s e;
      around = to_all (IsLowerInside s e) made.registered
          (each_more (IsRegister (done_as (happens s e))) (IsLowerInside s e) (λ x f. lower_inside s e x f) made.registered made.round);
    }

each_itself : {X : Type 0} (xs : List X) → AllByRecursion (λ x. Contains xs x) xs
each_itself [] = tt
each_itself (x ∷ xs) =
    ((0, omega arith, refl), each_more (λ y. Contains xs y) (λ y. Contains (x ∷ xs) y) (λ y c. contains_later x y xs c) xs (each_itself xs))

pub each_emission_is_of_a_kind : EachEmissionIsOfAKind
each_emission_is_of_a_kind s e =
    let sent : SendsOnly s e = only_copies_are_data s e in
    let K : Emission → Type 0 = IsOfAKind s e in
    let own : AllByRecursion K sent.messages =
    each_more IsMessage K (λ x f. inl f) sent.messages (recursion_from_All IsMessage sent.messages sent.own) in
    let copies : AllByRecursion K (copies_at s e) =
    each_both (λ x. Contains (copies_at s e) x) (IsLower s e) K (λ x here low. inr (inl (here, low))) (copies_at s e)
    (each_itself (copies_at s e)) (recursion_from_All (IsLower s e) (copies_at s e) sent.copies) in
    let around : AllByRecursion K sent.registered =
    each_more (IsLowerInside s e) K (λ x f. inr (inr f)) sent.registered
    (recursion_from_All (IsLowerInside s e) sent.registered sent.around) in
    subst (All K) (sym sent.emissions) (to_all K (sent.messages ++ copies_at s e ++ sent.registered)
    (each_append K (sent.messages ++ copies_at s e) sent.registered
    (each_append K sent.messages (copies_at s e) own copies) around))
