use Rattle.std.proofs.Common.{◌≡◌, ℕ, List, Option, Some, IfSome, sym, ◌∙◌, subst}
use Rattle.std.specs.Prelude.{Err}
use Rattle.outside.specs.FilesContent.{FilesContent, HasFile}
use Rattle.program_words.specs.Faults.{result_status}
use Rattle.program_words.specs.Forms.{OnModule, names_value}
use Rattle.module_top.specs.Outcomes.{AreLoaded, DigestRefused, HasDigest, HasImage, IsNamedFile, IsOutcome, KeysRefused}
use Rattle.module_top.proofs.RunOutcomes.{both, digest_refused, is_fault, keys_refused, told, told_all, work_image_refused}
use Rattle.module_top.proofs.running.work_on_files.Goals as goal

pub returns-in_err-image : goal.returns-in_err-image
returns-in_err-image g c = let is : c.from_residual.result ≡ Err c.in_err-image.field-0.0 = is_fault _ _ c.from_residual.ensures in record {
  outcome = rw is (work_image_refused g.E.Engine.calls c.args.engine (g.F.Files.content c.args.files.now) c.args.work (names_value c.args.names) c.in_err-image.field-0.0 _ _ c.in_err-image.ensures.refused);
}

pub returns-in_err-digest : goal.returns-in_err-digest
returns-in_err-digest g c =
    let files = g.F.Files.content c.args.files.now in
    let names = names_value c.args.names in
    let why = c.in_err-digest.field-0.0 in
    let now = g.F.Files.faults c.load_digest.new.files in
    let On : Option FilesContent → Type 0 = λ f. DigestRefused f names.digest why (g.F.Files.faults c.load_image.new.files) now in
    let From : ℕ → Type 0 = λ n. DigestRefused files names.digest why n now in
    let has : IfSome files (λ all. HasImage all names.image) = told files (λ all file. (c.in_ok-image.image.items, file, c.in_ok-image.ensures.fits)) c.in_ok-image.ensures.named in
    let is : c.from_residual-in_err-digest.result ≡ Err why = is_fault _ _ c.from_residual-in_err-digest.ensures in
    record {
      outcome = rw is (digest_refused g.E.Engine.calls c.args.engine files c.args.work names why _ _ has
          (subst From c.in_ok-image.ensures.faults_unchanged (subst On c.load_image.ensures.kept c.in_err-digest.ensures.refused)));
    }

pub returns-in_err-keys : goal.returns-in_err-keys
returns-in_err-keys g c =
    let files = g.F.Files.content c.args.files.now in
    let names = names_value c.args.names in
    let why = c.in_err-keys.field-0.0 in
    let now = g.F.Files.faults c.load_keys.new.files in
    let text = c.in_ok-digest.ensures.named.0 in
    let On : Option FilesContent → Type 0 = λ f. KeysRefused f names.keys why (g.F.Files.faults c.load_digest.new.files) now in
    let From : ℕ → Type 0 = λ n. KeysRefused files names.keys why n now in
    let Digests : Option FilesContent → Type 0 = λ f. IfSome f (λ all. HasFile all names.digest text) in
    let digests : Digests files = subst Digests c.load_image.ensures.kept c.in_ok-digest.ensures.named.2 in
    let has : IfSome files (λ all. HasImage all names.image × HasDigest all names.digest) =
    told files (λ all found. ((c.in_ok-image.image.items, found.0, c.in_ok-image.ensures.fits), (text, found.1, (c.in_ok-digest.digest, c.in_ok-digest.ensures.named.1))))
    (both (λ all. HasFile all names.image c.in_ok-image.image.items) (λ all. HasFile all names.digest text) files c.in_ok-image.ensures.named digests) in
    let is : c.from_residual-in_err-keys.result ≡ Err why = is_fault _ _ c.from_residual-in_err-keys.ensures in
    record {
      outcome = rw is (keys_refused g.E.Engine.calls c.args.engine files c.args.work names why _ _ has
          (subst From (c.in_ok-digest.ensures.faults_unchanged ∙ c.in_ok-image.ensures.faults_unchanged) (subst On (c.load_digest.ensures.kept ∙ c.load_image.ensures.kept) c.in_err-keys.ensures.refused)));
    }

pub returns : goal.returns
returns g c =
    let files = g.F.Files.content c.args.files.now in
    let names = names_value c.args.names in
    let image = c.in_ok-image.image.items in
    let text = c.in_ok-digest.ensures.named.0 in
    let digest = c.in_ok-digest.digest in
    let keys = c.deref_mut.result.now in
    let done = c.work_with_keys-done in
    let to_digest = c.load_digest.ensures.kept ∙ c.load_image.ensures.kept in
    let kept = c.load_keys.ensures.kept ∙ to_digest in
    let faults = c.in_ok-keys.ensures.faults_unchanged ∙ c.in_ok-digest.ensures.faults_unchanged ∙ c.in_ok-image.ensures.faults_unchanged in
    let Digests : Option FilesContent → Type 0 = λ f. IfSome f (λ all. HasFile all names.digest text) in
    let digests : Digests files = subst Digests c.load_image.ensures.kept c.in_ok-digest.ensures.named.2 in
    let Keys : Option FilesContent → Type 0 = λ f. IfSome f (λ all. IsNamedFile all names.keys c.in_ok-keys.keys.items) in
    let key_files : Keys files = subst Keys to_digest c.in_ok-keys.ensures.named in
    let loaded : AreLoaded files names image text digest c.in_ok-keys.keys.items = record {
      fits = c.in_ok-image.ensures.fits;
      spelled = c.in_ok-digest.ensures.named.1;
      are_keys = c.in_ok-keys.ensures.keys;
      named = told_all (λ all. HasFile all names.image image) (λ all. HasFile all names.digest text) (λ all. IsNamedFile all names.keys c.in_ok-keys.keys.items) files c.in_ok-image.ensures.named digests key_files;
    } in
    let Held : List ℕ → Type 0 = λ k. AreLoaded files names image text digest k in
    let On : Option FilesContent → Type 0 = λ f. AreLoaded f names image text digest keys in
    let outcome = done.ensures.outcome text (subst On (sym kept) (subst Held (sym c.deref_mut.ensures.value) loaded)) in
    let OnFiles : Option FilesContent → Type 0 = λ f. IsOutcome g.E.Engine.calls c.args.engine f (Some (OnModule c.args.work names)) (result_status done.result)
    (record {
      source = c.args.commands.now;
      sink = c.args.replies.now;
      streams = record { left = g.S.Source.left c.args.commands.now; gained = g.K.Sink.gained c.args.replies.now };
      file_faults = g.F.Files.faults c.load_keys.new.files;
      read_faults = g.S.Source.faults c.args.commands.now;
      write_faults = g.K.Sink.faults c.args.replies.now;
    })
    (record {
      source = done.new.commands;
      sink = done.new.replies;
      streams = record { left = g.S.Source.left done.new.commands; gained = g.K.Sink.gained done.new.replies };
      file_faults = g.F.Files.faults done.new.files;
      read_faults = g.S.Source.faults done.new.commands;
      write_faults = g.K.Sink.faults done.new.replies;
    }) in
    let OnFaults : ℕ → Type 0 = λ n. IsOutcome g.E.Engine.calls c.args.engine files (Some (OnModule c.args.work names)) (result_status done.result)
    (record {
      source = c.args.commands.now;
      sink = c.args.replies.now;
      streams = record { left = g.S.Source.left c.args.commands.now; gained = g.K.Sink.gained c.args.replies.now };
      file_faults = n;
      read_faults = g.S.Source.faults c.args.commands.now;
      write_faults = g.K.Sink.faults c.args.replies.now;
    })
    (record {
      source = done.new.commands;
      sink = done.new.replies;
      streams = record { left = g.S.Source.left done.new.commands; gained = g.K.Sink.gained done.new.replies };
      file_faults = g.F.Files.faults done.new.files;
      read_faults = g.S.Source.faults done.new.commands;
      write_faults = g.K.Sink.faults done.new.replies;
    }) in
    record { outcome = subst OnFaults faults (subst OnFiles kept outcome) }
