use Rattle.report_options.proofs.FileWords.{refused_of_file}
use Rattle.report_options.proofs.file_words.refused_words_of_a_file.Goals as goal

pub returns : goal.returns
returns c = refused_of_file
