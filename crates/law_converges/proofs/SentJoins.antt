-- Each Join that leaves is of what is wanted: upstream after a change, and where a Join Timer expires; nothing else sends one.
use Rattle.std.{proofs.Common.{Bool, List, ap, arith, cond, false, subst, sym, true, ℕ, ◌∙◌, ◌≡◌}, specs.List.AllByRecursion}
use Rattle.pim_types.{specs.{Keys.{group_in, is_star, source_in}, declared.{fact.Key.Key, outcome.Emission.Emission, timer.TimerKind.TimerKind}}}
use Rattle.pim_model.{specs.{Cause.Past, Clearing.clear, Desires.{join_desired, join_desired_star}, Downstream.prune_echo, Firing.{fired, settled}, Messages.Message, State.State, Step.change, Upstream.{source_view, star_view}, declared.accepted.Accepted.Accepted}}
use Rattle.law_settled.{proofs.{ListLaws.each_more, Unsettled.{cleared_in_the_end, untold}}}
use Rattle.law_streams.{specs.Uncounted.is_wanted}
use Rattle.law_converges.{proofs.{SentMessages.{IsGood, change_good, fired_good, is_plain, join_due_good, settled_says, source_good, star_good, upstream_good}, WantedCauses.{IsKnown, source_asked, star_asked}}, specs.JoinsAsked.{IsAskedMessage, JoinsAreAsked}}

-- what is wanted, by the kind of its key
module _ (t : State) (k : Key) (wanted : is_wanted t k ≡ true) where
  pub of_kind : (b : Bool) → is_star k ≡ b → cond b (join_desired_star t (group_in k)) (join_desired t (group_in k) (source_in k)) ≡ true
  of_kind b e =
      sym (ap (λ (b : Bool). cond b (join_desired_star t (group_in k)) (join_desired t (group_in k) (source_in k))) e) ∙ wanted

module _ (past : Past) (s : State) where
  abbrev Good : Message → Type 0
  Good = JoinsAreAsked past s

  abbrev pub AllSaid : List Emission → Type 0
  AllSaid xs = AllByRecursion (IsAskedMessage past s) xs

  plain : (m : Message) → is_plain m ≡ true → Good m
  plain m e = grind (arith, e)

  -- a change whose messages are asked for, with what follows from it
  pub settled_asks : (o : State) (c : State × List Message) (w : ℕ) → AllByRecursion Good c.1 → IsKnown past s (untold (settled o c w).0)
      → AllSaid (settled o c w).1
  unfolding star_view source_view
  settled_asks o c w own in_the_end =
      let a : State = (clear o c.0).0 in
      let known : IsKnown past s (untold a) = subst (IsKnown past s) (cleared_in_the_end o c w) in_the_end in
      each_more (IsGood Good plain) (IsAskedMessage past s) (λ x f. record { table = f.table; message = f.message; is = f.is; asked = f.good })
      (settled o c w).1
      (settled_says Good plain o c w own
      (upstream_good Good plain (λ h g src. (tt, tt)) (λ h g src. tt) o a w
      (λ g. star_good Good plain a w g (star_view o g) (star_view a g) (λ rp h on is up. (star_asked past s a known g on, tt))
      (λ rp h was up gone. tt))
      (λ g src. source_good Good plain a w g src (source_view o g src) (source_view a g src)
      (λ h on up. (source_asked past s a known g src on, tt)) (λ h was up gone. tt))))

  pub change_asks : (t : State) (w : ℕ) (a : Accepted) → AllByRecursion Good (change t w a).messages
  change_asks t w a = change_good Good plain t w a

  echo : (u : State) (k : Key) → AllByRecursion Good (prune_echo u k)
  unfolding prune_echo
  echo u k = grind arith

  -- where a Join Timer runs for what is wanted
  pub fired_asks : (t u : State) (kind : TimerKind) (k : Key) → IsKnown past s (untold t) → (kind ≡ TimerKind.Join → is_wanted t k ≡ true)
      → AllByRecursion Good (fired u kind k).1
  fired_asks t u kind k known wanted =
      fired_good Good plain (λ h g src. (tt, tt)) (λ h g src. tt) u kind k
      (λ join. join_due_good Good plain u k (λ star rp h is up. (star_asked past s t known (group_in k) (of_kind t k (wanted join) true star), tt))
      (λ source h up. (source_asked past s t known (group_in k) (source_in k) (of_kind t k (wanted join) false source), tt)))
      (λ pending. echo u k)
