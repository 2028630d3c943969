use Rattle.command_line.proofs.files.load_file.Goals as goal

pub returns : goal.returns
returns g c =
    let read = c.load_bytes.ensures in
    record {
      found = read.found;
      kind = read.kind;
      rose = λ e. (read.rose e, read.named e);
      same = λ unlike. (read.same unlike, read.same_name unlike);
      later = read.later;
      disks = read.disks;
      keeps = read.keeps;
      tells = read.tells;
      sound = λ h. (read.unfailed h, read.sound h);
    }
