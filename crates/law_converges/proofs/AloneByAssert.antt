-- The losers send none, and nobody else is on the link.
use Rattle.std.{proofs.{Common.{◌≡◌, ◌∙◌, ℕ, List, inl, inr, Some, ◌⊎◌, sym, ap, subst}, lemmas.List.Elements.recursion_from_All}, specs.List.Contains}
use Rattle.pim_ip.{specs.Ipv4.copy_text}
use Rattle.pim_types.{specs.declared.{event.Event.Event, outcome.Emission.Emission}}
use Rattle.pim_model.{specs.{Network.{Move, Network, Station, event_of, station_at}, Writing.on_link}}
use Rattle.law_streams.{specs.Copies.{IsLower, copies_at}, proofs.{Copies.ttl_falls, Links.each_contained}}
use Rattle.law_converges.{specs.{AloneByAssert.{BringsWhatIsLost, IsAboutIt, IsLoserOn, WinnerIsAlone}, ComesOnce.IsOfSource, Settles.{Contest, HasOneSender}}}

text_of : Emission → List ℕ
text_of (Emission.Link i bytes) = bytes
text_of (Emission.Unicast to bytes) = bytes

pub same_text : (i j : ℕ) (a b : List ℕ) → on_link i a ≡ on_link j b → a ≡ b
unfolding text_of
same_text i j a b e = ap text_of e

module _ (g src : ℕ) (a : Contest) (n : Network) (m : Move) (one : HasOneSender n a) (brings : BringsWhatIsLost g src a n m) where
  none_of : (q j : ℕ) (e : Event) (st : Station) (text : List ℕ) → event_of n m ≡ Some (q, e) → station_at n q ≡ Some st → IsOfSource g src text
      → Contains (copies_at st.state e) (on_link j text) → IsLoserOn a q j → ⊥
  none_of q j e st text is at its copied l =
      let low : IsLower st.state e (on_link j text) =
      each_contained (IsLower st.state e) (copies_at st.state e) (on_link j text)
      (recursion_from_All (IsLower st.state e) (copies_at st.state e) (ttl_falls st.state e)) copied in
      let same : text ≡ copy_text low.packet = same_text j low.link text (copy_text low.packet) low.is in
      let there : station_at n (l.loser).router ≡ Some st = ap (station_at n) (sym l.router) ∙ at in
      let about : IsAboutIt a st e low.packet =
      brings l.loser e st low.packet l.among (is ∙ ap (λ (z : ℕ). Some (z, e)) l.router) there low.brought (subst (IsOfSource g src) same its) in
      one.only l.loser l.among e st about.iface low.packet text there about.data_came about.about
      (subst (λ (i : ℕ). Contains (copies_at st.state e) (on_link i text)) l.iface copied)

pub winner_is_alone : WinnerIsAlone
winner_is_alone g src a n m one all brings q j e st text is at linked its copied = go (all q j st at linked)
  where
    go : (q ≡ (a.winner).router) ⊎ IsLoserOn a q j → q ≡ (a.winner).router
    go (inl same) = same
    go (inr lost) = absurd (none_of g src a n m one brings q j e st text is at its copied lost)
