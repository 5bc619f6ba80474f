-- Laws of rmdir's tests together: what the code goes through is what the stages say, in 01's order. Assumes nothing.
use Rattle.std.specs.Prelude.{Option, Some, None, Result, Ok, Err}
use mathlib.Core.Path.{◌≡◌, refl, sym, ap, ◌∙◌}
use mathlib.Core.Bool.{Bool, true, false, ◌&&◌}
use mathlib.Core.List.{List}
use Prim.Native.Nat.{ℕ}
use lib.Dec.{eqb}
use borrow.Author.Tests.{eq-eqb, ne_eqb}
use Rattle.refusal.specs.declared.Refusal.{Refusal}
use Rattle.refusal.specs.declared.Refusal.TheVariants.{Invalid, Damaged, NoEntry, NameTooLong, NotDirectory}
use Rattle.store.specs.Act.{Out, got, refused}
use Rattle.volume.specs.declared.Geometry.{Geometry}
use Rattle.frame.specs.Frame.{Frame}
use Rattle.inode.specs.Shape.{is_dir}
use Rattle.inode_run.specs.declared.Spot.{Spot}
use Rattle.inode_run.specs.Judge.{ask, and_then}
use Rattle.inode_run.specs.Find.{number_ok, typed, spot_of, find_inode}
use Rattle.inode_run.proofs.FindLaws.{Named}
use Rattle.stages.specs.Stages.{in_order}
use Rattle.stages.proofs.StagesLaws.{at_names, at-lengths, at-numbers, at-inodes, at-dirs}
use Rattle.dirnames.specs.Names.{taken, short}
use Rattle.dirfile.specs.Block.{dir_of}
use Rattle.dirfile.specs.Seek.{Sought, here, nowhere, hurt}
use Rattle.dirfile.proofs.BlockLaws.{dir-is, dir-named}
use Rattle.dirwalk.specs.declared.Hit.{Hit}
use Rattle.dirwalk.specs.Walk.{lookup_dir, find_dir, looked_out, seen_out}
use Rattle.dirother.specs.Other.{others_dir}
use Rattle.dirjudge.specs.Judge.{drop_end, drop_tail}
use Rattle.dirjudge.proofs.DirLaws.{Fails, number, inode, kind, dir-fails}
use Rattle.unlink_judge.specs.Unlink.{there_out, on_hit, in_dir_only, found_ok}
use Rattle.rmdir_judge.specs.Rmdir.{dot, dotdot, gone_in, link_in, own_in, facts_of, own_ok, same_out, empty_out, counts_out, drops_out, stages_of, rmdir_stages, hits_out, walks_out, dirs_out, found_out, gone_out, removal_of}
use Rattle.refusal.specs.Refusal.{damage}
use Rattle.refusal.specs.declared.Damage.{Damage}

-- ---- the directory that is to go, found: its inodes, then the walks

module _ (geo : Geometry) (img : List ℕ) (s e : Spot) (i : ℕ) (name : List ℕ) (link up own : Result (Option Hit) Damage)
    (el : seen_out link ≡ find_dir geo s.at s.shape.size img name) (eu : seen_out up ≡ find_dir geo e.at e.shape.size img dotdot) (eo : seen_out own ≡ find_dir geo e.at e.shape.size img dot) where
  pub dirs-no : own_ok geo img i (seen_out up) (seen_out own) ≡ false → refused Invalid ≡ dirs_out geo img s e i name
  unfolding dirs_out
  dirs-no h = rw (← eu, ← eo, h)

  module _ (k : own_ok geo img i (seen_out up) (seen_out own) ≡ true) where
    dirs-walks : walks_out geo img s.shape.size e i (seen_out link) (seen_out up) (seen_out own) ≡ dirs_out geo img s e i name
    unfolding dirs_out
    dirs-walks = rw (← el, ← eu, ← eo, k)

    pub dirs-no-link : link ≡ Ok None → refused Damaged ≡ dirs_out geo img s e i name
    dirs-no-link l = sym (ap (λ (x : Result (Option Hit) Damage). walks_out geo img s.shape.size e i (seen_out x) (seen_out up) (seen_out own)) l) ∙ dirs-walks

    pub dirs-bad-link : link ≡ Err damage → refused Damaged ≡ dirs_out geo img s e i name
    dirs-bad-link l = sym (ap (λ (x : Result (Option Hit) Damage). walks_out geo img s.shape.size e i (seen_out x) (seen_out up) (seen_out own)) l) ∙ dirs-walks

    module _ (v : Hit) (l : link ≡ Ok (Some v)) where
      walks-link : walks_out geo img s.shape.size e i (here v) (seen_out up) (seen_out own) ≡ dirs_out geo img s e i name
      walks-link = sym (ap (λ (x : Result (Option Hit) Damage). walks_out geo img s.shape.size e i (seen_out x) (seen_out up) (seen_out own)) l) ∙ dirs-walks

      pub dirs-other : (v.inr ≡ i → ⊥) → refused Damaged ≡ dirs_out geo img s e i name
      dirs-other n = go (seen_out up) (seen_out own) ∙ walks-link
        where
          go : (x y : Sought Hit) → refused Damaged ≡ walks_out geo img s.shape.size e i (here v) x y
          go (here q) (here c) = rw (ne_eqb v.inr i n)
          go (here q) nowhere = rw (ne_eqb v.inr i n)
          go (here q) hurt = refl
          go nowhere y = rw (ne_eqb v.inr i n)
          go hurt y = refl

      module _ (n : v.inr ≡ i) where
        pub dirs-no-dots : up ≡ Ok None → refused NoEntry ≡ dirs_out geo img s e i name
        dirs-no-dots u = rw (eq-eqb v.inr i n) at (sym (ap (λ (x : Result (Option Hit) Damage). walks_out geo img s.shape.size e i (here v) (seen_out x) (seen_out own)) u)) ∙ walks-link

        pub dirs-bad-dots : up ≡ Err damage → refused Damaged ≡ dirs_out geo img s e i name
        dirs-bad-dots u = sym (ap (λ (x : Result (Option Hit) Damage). walks_out geo img s.shape.size e i (here v) (seen_out x) (seen_out own)) u) ∙ walks-link

        module _ (q : Hit) (u : up ≡ Ok (Some q)) where
          walks-up : walks_out geo img s.shape.size e i (here v) (here q) (seen_out own) ≡ dirs_out geo img s e i name
          walks-up = sym (ap (λ (x : Result (Option Hit) Damage). walks_out geo img s.shape.size e i (here v) (seen_out x) (seen_out own)) u) ∙ walks-link

          walks-own : {x : Sought Hit} {r : Out (Unit {0})} → seen_out own ≡ x → r ≡ walks_out geo img s.shape.size e i (here v) (here q) x → r ≡ dirs_out geo img s e i name
          walks-own {x} {r} h t = t ∙ sym (ap (walks_out geo img s.shape.size e i (here v) (here q)) h) ∙ walks-up

          pub dirs-no-dot : own ≡ Ok None → refused NoEntry ≡ dirs_out geo img s e i name
          dirs-no-dot o = walks-own {x = nowhere} (ap seen_out o) (rw (eq-eqb v.inr i n))

          pub dirs-bad-dot : own ≡ Err damage → refused Damaged ≡ dirs_out geo img s e i name
          dirs-bad-dot o = walks-own {x = hurt} (ap seen_out o) refl

          pub dirs-hits : (c : Hit) → own ≡ Ok (Some c) → (r : Out (Unit {0})) → r ≡ hits_out geo img s.shape.size e i v q c → r ≡ dirs_out geo img s e i name
          dirs-hits c o r h = walks-own {x = here c} (ap seen_out o) (rw (eq-eqb v.inr i n) h)

-- the same, of what the searches answer
pub dirs_invalid : (geo : Geometry) (img : List ℕ) (s e : Spot) (i : ℕ) (name : List ℕ)
    → own_ok geo img i (find_dir geo e.at e.shape.size img dotdot) (find_dir geo e.at e.shape.size img dot) ≡ false → dirs_out geo img s e i name ≡ refused Invalid
unfolding dirs_out
dirs_invalid geo img s e i name h = rw h

pub dirs_are : (geo : Geometry) (img : List ℕ) (s e : Spot) (i : ℕ) (name : List ℕ) (link up own : Sought Hit) → find_dir geo s.at s.shape.size img name ≡ link
    → find_dir geo e.at e.shape.size img dotdot ≡ up → find_dir geo e.at e.shape.size img dot ≡ own → own_ok geo img i up own ≡ true
    → dirs_out geo img s e i name ≡ walks_out geo img s.shape.size e i link up own
unfolding dirs_out
dirs_are geo img s e i name link up own el eu eo k = rw (el, eu, eo, k)

-- ---- its inode

module _ (geo : Geometry) (img : List ℕ) (s : Spot) (i : ℕ) (name : List ℕ) where
  pub found-dirs : (e : Spot) → dir_of geo img i ≡ got e → (r : Out (Unit {0})) → r ≡ dirs_out geo img s e i name → r ≡ found_out geo img s i name
  unfolding found_out
  found-dirs e h r q = rw h q

  pub found_none : (x : Refusal) → dir_of geo img i ≡ refused x → refused x ≡ found_out geo img s i name
  unfolding found_out
  found_none x h = rw h

-- ---- its name

module _ (geo : Geometry) (img : List ℕ) (s : Spot) (name : List ℕ) (l : Result (Option ℕ) Damage) (el : looked_out l ≡ lookup_dir geo s.at s.shape.size img name) where
  abbrev pub answer_in : Sought ℕ → Result ℕ Refusal
  answer_in x = removal_of x (gone_out geo img s name x)

  in-looked : (x : Result (Option ℕ) Damage) → l ≡ x → answer_in (looked_out x) ≡ answer_in (lookup_dir geo s.at s.shape.size img name)
  in-looked x h = ap answer_in (sym (ap looked_out h) ∙ el)

  pub in-dir : (i : ℕ) → l ≡ Ok (Some i) → (r : Out (Unit {0})) → r ≡ found_out geo img s i name → r ≡ got (tt {0}) → Ok i ≡ answer_in (lookup_dir geo s.at s.shape.size img name)
  in-dir i h r q g = ap (removal_of (here i)) (sym g ∙ q) ∙ in-looked (Ok (Some i)) h

  pub in-no : (i : ℕ) → l ≡ Ok (Some i) → (r : Out (Unit {0})) → r ≡ found_out geo img s i name → (x : Refusal) → r ≡ refused x → Err x ≡ answer_in (lookup_dir geo s.at s.shape.size img name)
  in-no i h r q x g = ap (removal_of (here i)) (sym g ∙ q) ∙ in-looked (Ok (Some i)) h

  pub in-absent : l ≡ Ok None → Err NoEntry ≡ answer_in (lookup_dir geo s.at s.shape.size img name)
  in-absent h = in-looked (Ok None) h

  pub in-bad : l ≡ Err damage → Err Damaged ≡ answer_in (lookup_dir geo s.at s.shape.size img name)
  in-bad h = in-looked (Err damage) h

-- ---- the stages

removal_no : (x : Sought ℕ) (o : Out (Unit {0})) (e : Refusal) → o ≡ refused e → Err e ≡ removal_of x o
removal_no (here i) o e h = rw h
removal_no nowhere o e h = rw h
removal_no hurt o e h = rw h

-- the walks and all behind them, as the stages have them
module _ (geo : Geometry) (img : List ℕ) (size : ℕ) (e : Spot) (i : ℕ) where
  abbrev late_out : Sought Hit → Sought Hit → Sought Hit → Out (Unit {0})
  late_out link up own =
      and_then (and_then (same_out i link) (λ _. and_then (there_out up) (λ _. there_out own)))
      (λ _. and_then (empty_out (others_dir geo e.at e.shape.size img)) (λ _. and_then (on_hit up (λ q. on_hit own (λ c. counts_out geo img i q.inr c.inr)))
      (λ _. and_then (on_hit link (λ v. on_hit up (λ q. on_hit own (drops_out drop_end geo img size e v q)))) (λ _. on_hit link (λ v. on_hit up (λ q. on_hit own (drops_out drop_tail geo img size e v q)))))))

  after-ask : (b : Bool) (x : Out (Unit {0})) → and_then {A = Unit {0}} (and_then (ask b Damaged (got (tt {0}))) (λ _. got (tt {0}))) (λ _. x) ≡ ask b Damaged x
  after-ask true x = refl
  after-ask false x = refl

  after_none : (b : Bool) (x : Out (Unit {0})) → and_then {A = Unit {0}} (and_then (ask b Damaged (got (tt {0}))) (λ _. refused NoEntry)) (λ _. x) ≡ ask b Damaged (refused NoEntry)
  after_none true x = refl
  after_none false x = refl

  after-hurt : (b : Bool) (x : Out (Unit {0})) → and_then {A = Unit {0}} (and_then (ask b Damaged (got (tt {0}))) (λ _. refused Damaged)) (λ _. x) ≡ refused Damaged
  after-hurt true x = refl
  after-hurt false x = refl

  late_is : (link up own : Sought Hit) → late_out link up own ≡ walks_out geo img size e i link up own
  unfolding hits_out
  late_is (here v) (here q) (here c) = after-ask (eqb v.inr i) _
  late_is (here v) (here q) nowhere = after_none (eqb v.inr i) _
  late_is (here v) (here q) hurt = after-hurt (eqb v.inr i) _
  late_is (here v) nowhere own = after_none (eqb v.inr i) _
  late_is (here v) hurt own = after-hurt (eqb v.inr i) _
  late_is nowhere up own = refl
  late_is hurt up own = refl

-- ---- a directory that the inode of a name leads to

module _ (geo : Geometry) (img : List ℕ) (i : ℕ) where
  dir-tests : (n t k : Bool) → number_ok geo i ≡ n → typed (spot_of geo img i).shape ≡ t → is_dir (spot_of geo img i).shape ≡ k
      → dir_of geo img i ≡ ask (n && t) Invalid (ask k NotDirectory (got (spot_of geo img i)))
  unfolding dir_of find_inode
  dir-tests true true k en et ek = rw (en, et, ek)
  dir-tests true false k en et ek = rw (en, et)
  dir-tests false t k en et ek = rw en

  pub dir-asked : dir_of geo img i ≡ ask (found_ok geo img i) Invalid (ask (is_dir (spot_of geo img i).shape) NotDirectory (got (spot_of geo img i)))
  unfolding found_ok
  dir-asked = dir-tests (number_ok geo i) (typed (spot_of geo img i).shape) (is_dir (spot_of geo img i).shape) refl refl refl

module _ (geo : Geometry) (img : List ℕ) (s : Spot) (name : List ℕ) where
  -- what the stages say from the inodes on, where lookup found i
  abbrev inode_out : ℕ → Bool → Bool → Sought Hit → Sought Hit → Sought Hit → Out (Unit {0})
  inode_out i f k link up own =
      ask (f && own_ok geo img i (in_dir_only (f && k) up) (in_dir_only (f && k) own)) Invalid (ask k NotDirectory
      (late_out geo img s.shape.size (spot_of geo img i) i link (in_dir_only (f && k) up) (in_dir_only (f && k) own)))

  none-own : (i : ℕ) → own_ok geo img i nowhere nowhere ≡ true
  unfolding own_ok
  none-own i = refl

  inode-is : (i : ℕ) (f k : Bool) (link up own : Sought Hit)
      → inode_out i f k link up own
      ≡ ask f Invalid (ask k NotDirectory (ask (own_ok geo img i up own) Invalid (walks_out geo img s.shape.size (spot_of geo img i) i link up own)))
  inode-is i true true link up own = ap (ask (own_ok geo img i up own) Invalid) (late_is geo img s.shape.size (spot_of geo img i) i link up own)
  inode-is i true false link up own = rw (none-own i)
  inode-is i false k link up own = refl

  ask-through : (f k : Bool) (e : Spot) (g : Spot → Out (Unit {0})) → and_then (ask f Invalid (ask k NotDirectory (got e))) g ≡ ask f Invalid (ask k NotDirectory (g e))
  ask-through true true e g = refl
  ask-through true false e g = refl
  ask-through false k e g = refl

  found-is : (i : ℕ)
      → inode_out i (found_ok geo img i) (is_dir (spot_of geo img i).shape) (find_dir geo s.at s.shape.size img name)
      (find_dir geo (spot_of geo img i).at (spot_of geo img i).shape.size img dotdot) (find_dir geo (spot_of geo img i).at (spot_of geo img i).shape.size img dot)
      ≡ found_out geo img s i name
  unfolding found_out dirs_out
  found-is i =
      inode-is i (found_ok geo img i) (is_dir (spot_of geo img i).shape) (find_dir geo s.at s.shape.size img name)
      (find_dir geo (spot_of geo img i).at (spot_of geo img i).shape.size img dotdot) (find_dir geo (spot_of geo img i).at (spot_of geo img i).shape.size img dot)
      ∙ sym (ask-through (found_ok geo img i) (is_dir (spot_of geo img i).shape) (spot_of geo img i) (λ e. dirs_out geo img s e i name))
      ∙ sym (ap (λ (o : Out Spot). and_then o (λ e. dirs_out geo img s e i name)) (dir-asked geo img i))

-- ---- all of it

module _ (geo : Geometry) (img : List ℕ) (d : ℕ) (name : List ℕ) where
  pub rmdir-refused : (e : Refusal) → in_order (rmdir_stages geo img d name) ≡ refused e → Err e ≡ removal_of (gone_in geo img d name) (in_order (rmdir_stages geo img d name))
  rmdir-refused e h = removal_no (gone_in geo img d name) (in_order (rmdir_stages geo img d name)) e h

  pub rmdir-bad-name : taken true name ≡ false → in_order (rmdir_stages geo img d name) ≡ refused Invalid
  unfolding rmdir_stages stages_of
  rmdir-bad-name h = at_names (rmdir_stages geo img d name) h

  module _ (n : taken true name ≡ true) where
    pub rmdir-long-name : short name ≡ false → in_order (rmdir_stages geo img d name) ≡ refused NameTooLong
    unfolding rmdir_stages stages_of
    rmdir-long-name h = at-lengths (rmdir_stages geo img d name) n h

    module _ (l : short name ≡ true) where
      by-fails : (e : Refusal) → Fails geo img d e → in_order (rmdir_stages geo img d name) ≡ refused e
      unfolding rmdir_stages stages_of facts_of gone_in
      by-fails e (number u q) = at-numbers (rmdir_stages geo img d name) n l u ∙ ap refused (sym q)
      by-fails e (inode u t q) = at-inodes (rmdir_stages geo img d name) n l u (rw t) ∙ ap refused (sym q)
      by-fails e (kind u t k q) = at-dirs (rmdir_stages geo img d name) n l u (rw (t, k)) (rw k) ∙ ap refused (sym q)

      pub rmdir-no-dir : (e : Refusal) → dir_of geo img d ≡ refused e → in_order (rmdir_stages geo img d name) ≡ refused e
      rmdir-no-dir e h = by-fails e (dir-fails geo img d e h)

      module _ (u : number_ok geo d ≡ true) (t : typed (spot_of geo img d).shape ≡ true) (k : is_dir (spot_of geo img d).shape ≡ true) where
        -- the stages where lookup answers x
        stages-on : (x : Sought ℕ) → lookup_dir geo (spot_of geo img d).at (spot_of geo img d).shape.size img name ≡ x → in_order (rmdir_stages geo img d name) ≡ gone_out geo img (spot_of geo img d) name x
        unfolding in_order rmdir_stages stages_of facts_of gone_in link_in own_in
        stages-on (here i) h = rw (n, l, u, t, k, h) (found-is geo img (spot_of geo img d) name i)
        stages-on nowhere h = rw (n, l, u, t, k, h)
        stages-on hurt h = rw (n, l, u, t, k, h)

        gone-on : gone_in geo img d name ≡ lookup_dir geo (spot_of geo img d).at (spot_of geo img d).shape.size img name
        unfolding gone_in
        gone-on = rw k

      -- the directory d, whose record is s
      module _ (fr : Frame geo img) (s : Spot) (h : dir_of geo img d ≡ got s) where
        its : Named geo img d s
        its = dir-named geo img fr d s h

        its-typed : typed (spot_of geo img d).shape ≡ true
        its-typed = ap (λ (x : Spot). typed x.shape) (sym its.is) ∙ its.typed

        its-kind : is_dir (spot_of geo img d).shape ≡ true
        its-kind = ap (λ (x : Spot). is_dir x.shape) (sym its.is) ∙ (dir-is geo img d s h).1

        pub rmdir-judged : in_order (rmdir_stages geo img d name) ≡ gone_out geo img s name (lookup_dir geo s.at s.shape.size img name)
        rmdir-judged =
            stages-on its.number its-typed its-kind (lookup_dir geo (spot_of geo img d).at (spot_of geo img d).shape.size img name) refl
            ∙ ap (λ (x : Spot). gone_out geo img x name (lookup_dir geo x.at x.shape.size img name)) (sym its.is)

        pub gone-is : gone_in geo img d name ≡ lookup_dir geo s.at s.shape.size img name
        gone-is = gone-on its.number its-typed its-kind ∙ ap (λ (x : Spot). lookup_dir geo x.at x.shape.size img name) (sym its.is)

        pub rmdir-in : removal_of (lookup_dir geo s.at s.shape.size img name) (gone_out geo img s name (lookup_dir geo s.at s.shape.size img name)) ≡ removal_of (gone_in geo img d name) (in_order (rmdir_stages geo img d name))
        rmdir-in = rw (gone-is, rmdir-judged)
