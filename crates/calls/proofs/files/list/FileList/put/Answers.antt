use Rattle.std.proofs.Common.{ap, ◌∙◌, slice_set}
use Rattle.std.proofs.lemmas.List.{map-set}
use Rattle.calls.specs.FilesHeld.{Filed, as_file, with_files}
use Rattle.calls.proofs.files.list.FileList.put.Goals as goal

pub returns : goal.returns
returns c =
    let files = c.self.inside.files in
    let n = c.args.number in
    let file = c.args.file in
    ap (λ fs. with_files fs (record { files = fs; places = files.cap })) (map-set as_file files.items n file)
    ∙ ap (λ (filed : Filed). with_files (slice_set filed.files n (as_file file)) filed) c.self.view_is
