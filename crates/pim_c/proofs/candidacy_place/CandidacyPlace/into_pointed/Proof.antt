-- `into_pointed` gives the pointer up with what stands behind it. Assumes `Logic`.
use Rattle.std.{proofs.{Common.{◌≡◌, List, [], ◌∷◌, ◌++◌, refl, sym, subst}, alloc.Calls.Goes-blank, raw_atomic.Walks.{proved_at, leaves}}, specs.{Prelude.{IsSome, Option, Some}, contracts.impls.GlobalAllocator.TheImpl.ghosts}}
use mir.{Raw.raw as bare, Val.{Val, vptr}}
use base.{Logic.{SProp, ent, emp, never, id⊢, fst∗}}
use prog.{Wp.WpFn}
use types.{Logic.sem, Kit.{‵, raw, ◌⊛◌, ◌$◌, ◌∵◌, !, qed, by, move, keep, split, fsplit, fjoin, suffices, use0, use1, rewrite}, Run.{stop, fld, of_opd, no_more, and_then, returns, enter}, ByLocal.{alloc_all, pass_all, free_all, look_at, get, get_in, sets}, Part.{agg, sub, whole}}
use contract.{Monad.{fact, fact_i}, Running.tables}
use denote.{RattleType.owns, Memory.lone, RawPtr.{Ptr, block_ptr, null_ptr, ptr_val, in_a_block}, Signature.{types_at, plain}, Steps.{nothing, heard}, Triple.{Entry.alive, Walked.{Stays, stay_dropped, walk_of}}}
use Rattle.std_alloc.{specs.Box.Ownership.box_owns}
use Rattle.pim_c.{proofs.{PointedWords.{pair, pair_good, pointed_in, Row as To}, PlaceWords.{Z, laws, place_out, value_of}, candidacy_place.CandidacyPlace.into_pointed.Statement.statement}, specs.{Kept.kept, contracts.candidacy_place.CandidacyPlace.{the_heap, the_row as Row, into_pointed.{ended, clauses, Key.name as #self}}}}
use Rattle.pim_candidate.{specs.contracts.candidacy.Candidacy.the_row as candidacy}
use Rattle.pim_c.proofs.candidacy_place.CandidacyPlace.into_pointed.Code as code

pub into_pointed_spec : {M : Type 1} → statement M
into_pointed_spec 𝓤 𝓛 𝓜 𝓡 wired =
    let H = 𝓛.H in let 𝓣 = tables 𝓤 H 𝓜 𝓡 𝓡.env in let c = clauses 𝓛 𝓜.mem 𝓡.returns in let fn = code.function in
    let stays : Stays ended.signature.params ended.kept = (stay_dropped (plain (λ _. Row)) ended.kept.0, tt) in
    proved_at 𝓛 ended stays c 𝓜 𝓡 (Goes-blank 𝓛 0 (plain (λ _. Row)) ended.kept.0 (λ κs x f. tt), tt) #self fn (code.unfolded 𝓤 H 𝓜 𝓡 wired) (λ z are.
    let v = z.0.3.0 in let a = v.alloc in let Post : Val → SProp 𝓤 = (walk_of 𝓛 ended stays c).post z in
    let Run : List Val → SProp 𝓤 = λ ws. WpFn 𝓤 H 𝓣.C 𝓣.Λ fn ws Post in
    qed 𝓛 ((raw (alive 𝓛 ended.signature z.0.0 z.0.1) ⊛ ‵ (owns (types_at ended.signature.params z.0.0) z.0.3 z.0.4)) ∷ raw (fact 𝓤 (IsSome v.inside)) ∷ []) ∵
    move ! (1 ∷ []) $ heard ! (IsSome v.inside) (λ is_there. let found = value_of v.inside is_there in let x = found.0 in let there : v.inside ≡ Some x = found.1 in
    let held = λ (p : Ptr). box_owns (ghosts.dealloc_token a) candidacy p x in split ! $ move ! (1 ∷ []) $ fsplit ! $ place_out ! v.at v.alloc (the_heap v) z.0.4.0 (λ h is fits.
    rewrite ! 0 (λ (o : Option candidacy.Denot). ‵ (kept (λ y. box_owns (ghosts.dealloc_token a) candidacy v.at y) o)) there refl $ use1 𝓛 (‵ (held v.at)) (id⊢ 𝓤 _) $
    in_a_block ! v.at held (fst∗ 𝓤 (never 𝓤) (sem 𝓛 (ghosts.dealloc_token a (bare (lone candidacy.mir)) null_ptr))) (λ b o e.
    let w : Val = pair (vptr b o) h in let typed = pair_good candidacy Z laws ghosts b o h fits in
    let made : (To candidacy Z laws ghosts).Denot = record { at = block_ptr b o; alloc = a; value = x } in
    let spelled : z.0.4.0 ≡ w ∷ [] = subst (λ (p : Ptr). z.0.4.0 ≡ pair (ptr_val p) h ∷ []) e is in
    suffices ! (Run (w ∷ [])) (subst (λ (us : List Val). ent 𝓤 (Run (w ∷ [])) (Run us)) (sym (λ i. spelled i ++ [])) (id⊢ 𝓤 (Run (w ∷ [])))) $
    enter ! 𝓣.C 𝓣.Λ fn (w ∷ []) Post $ alloc_all ! (λ l. pass_all ! refl (typed, tt) $
    -- let CandidacyPlace { at, alloc } = self;
    sets ! (of_opd ! (get_in ! (fld ! refl (stop !)) (sub ! 0 refl (whole !)))) refl (tt, tt) $
    sets ! (of_opd ! (get_in ! (fld ! refl (stop !)) (sub ! 1 refl (whole !)))) refl fits $
    -- Pointed { at: at as *mut Candidacy, alloc }
    sets ! (of_opd ! (get ! refl)) refl (tt, tt) $
    sets ! (agg ! (and_then ! (get ! refl) (and_then ! (get ! refl) (no_more !)))) refl typed $
    returns ! (look_at ! 0 refl) $ free_all ! refl $
    pointed_in candidacy Z laws ghosts ! b o h a x $
    use0 𝓛 (raw (fact 𝓤 (v.inside ≡ Some x))) (fact_i 𝓤 (v.inside ≡ Some x) (emp 𝓤) there) $ nothing ! $ nothing ! $ fjoin ! $
    keep ! (4 ∷ 0 ∷ 2 ∷ 1 ∷ []) $ by ! (leaves 𝓛 ended stays c z w made (tt, tt) (tt, tt)))))))
